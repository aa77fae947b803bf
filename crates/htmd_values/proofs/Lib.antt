-- Lemmas on what value trees are written as.
pub mod SerialisationLemmas
pub mod RawBlocksLemmas
mod Examples
