-- What people ask for of a page: which elements are hidden, which hold a formula alone, what becomes of an element, and
-- the page that is left. The last, how fates are kept, serves private functions alone.
pub mod Hidden
pub mod Formulas
pub mod Fates
pub mod Trimming
pub mod Titles
pub mod FateViews
