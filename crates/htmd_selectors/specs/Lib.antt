-- What selectors are, how they are read from a text, which elements they name, and the parts of a page. The last three,
-- what is kept of the elements around, before and beside a place, serve private functions alone.
pub mod SelectorSteps
pub mod Reading
pub mod SeriesReading
pub mod Matching
pub mod Series
pub mod Rewriting
pub mod Types
pub mod SelectedParts
pub mod Views
pub mod ReaderViews
pub mod SelectorStates
pub mod ElementViews
pub mod TypeViews
