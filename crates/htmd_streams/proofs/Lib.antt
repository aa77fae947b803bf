-- Lemmas of what is appended part by part, of lines and fields, and worked rows.
pub mod AppendsLemmas
pub mod LinesLemmas
pub mod FieldsLemmas
mod Examples
