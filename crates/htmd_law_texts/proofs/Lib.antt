-- The lemmas that lead to the laws.
pub mod LineStarts
pub mod WrittenPieces
pub mod PieceTexts
pub mod PieceUtf8
pub mod Foreign
pub mod TextStarts
pub mod TextLines
pub mod TextFirst
pub mod InlineStarts
pub mod PieceFirsts
pub mod WrittenLines
pub mod ParagraphLines
pub mod PieceEnds
pub mod TrimmedPieces
pub mod NoDefinition
pub mod DefinitionLines
pub mod LineLaws
pub mod TagLines
pub mod TagTexts
pub mod FlatForm
pub mod NestedLines
pub mod NestedBlocks
pub mod NormalForm
pub mod Growth
pub mod DocumentLaws
mod Examples
