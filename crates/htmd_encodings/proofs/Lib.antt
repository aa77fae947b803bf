-- Lemmas of runs, labels, attributes and the search, and of decoders, and worked rows.
pub mod RunsLemmas
pub mod LabelsLemmas
pub mod AttributesLemmas
pub mod PrescanLemmas
pub mod SequencesLemmas
pub mod RangesLemmas
pub mod DecodingLemmas
mod Examples
mod MultiByteExamples
