-- Lemmas on selectors and on the parts of pages.
pub mod SelectorStatesLemmas
pub mod ReadingLemmas
pub mod SelectedPartsLemmas
pub mod PagesLemmas
pub mod TypesLemmas
mod Examples
