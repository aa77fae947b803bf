-- Lemmas on what is left of a page.
pub mod HiddenLemmas
pub mod FormulasLemmas
pub mod FatesLemmas
pub mod LaidLemmas
pub mod TrimmingLemmas
pub mod TitlesLemmas
pub mod PageLemmas
mod Examples
