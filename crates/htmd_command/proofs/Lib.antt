-- Lemmas of the program.
pub mod PageResultsLemmas
pub mod ProgramsLemmas
