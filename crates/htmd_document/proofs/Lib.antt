-- Lemmas on documents.
pub mod TagsLemmas
pub mod ValuesLemmas
pub mod FlatLemmas
pub mod FormatsLemmas
pub mod MdastLemmas
pub mod MdastPlainLemmas
pub mod NormalExamples
pub mod FlatExamples
