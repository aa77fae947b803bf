-- Lemmas on documents of trees.
mod AnchorsLemmas
mod CoversLemmas
mod Examples
mod FirstPiecesLemmas
mod LeadingsLemmas
pub mod LimitsLemmas
mod SeenLemmas
mod ShapesLemmas
mod TargetsLemmas
pub mod TextBytesLemmas
pub mod TextLengths
mod WalksLemmas
