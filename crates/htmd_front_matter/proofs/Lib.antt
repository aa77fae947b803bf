-- Lemmas on what a page says of itself.
pub mod ValuesLemmas
mod Examples
