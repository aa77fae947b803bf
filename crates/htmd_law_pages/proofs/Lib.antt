-- The lemmas that lead to the laws.
mod Examples
pub mod DocumentOrder
pub mod LayoutOrder
pub mod PieceLemmas
pub mod PageLaws
pub mod MadeDocuments
