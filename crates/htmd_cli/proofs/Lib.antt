-- Lemmas of faults, runs, options and rows, and worked rows.
pub mod FailuresLemmas
pub mod StreamConversionsLemmas
pub mod ModeRunsLemmas
pub mod OptionsLemmas
pub mod RowsLemmas
pub mod BatchesLemmas
mod Examples
