-- The lemmas that lead to the laws.
pub mod WholeDocuments
pub mod PlainDocuments
pub mod ReadingMain
pub mod LineEnds
pub mod DefinitionLines
pub mod PageLaws
pub mod NoDefinitions
pub mod PieceLaws
mod Examples
