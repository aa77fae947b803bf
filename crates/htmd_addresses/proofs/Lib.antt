-- Lemmas on addresses.
mod Examples
pub mod BasesLemmas
pub mod PathsLemmas
pub mod PagesLemmas
pub mod LeadsLemmas
pub mod SetsLemmas
