-- Lemmas on names, paths, words and plans.
pub mod NamesLemmas
pub mod UnfinishedLemmas
pub mod PathsLemmas
pub mod WordsLemmas
pub mod OrderLemmas
pub mod FilePlansLemmas
pub mod PromisesLemmas
mod Examples
pub mod NamedLemmas
