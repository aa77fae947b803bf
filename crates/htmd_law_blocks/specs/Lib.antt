-- What is written of a document's blocks, read back: texts, the closed blocks of a document, its normal form, the law.
pub mod LineTexts
pub mod DocumentParts
pub mod NormalBlocks
pub mod DocumentTexts
pub mod DocumentBlocks
pub mod BlockLaws
