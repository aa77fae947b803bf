-- Lemmas on parts and HTML.
pub mod OrderLemmas
pub mod PartLemmas
pub mod TextLemmas
pub mod StepLemmas
pub mod RunLemmas
