-- The laws of the lenient reader.
pub mod PageLetters
pub mod DocumentLetters
pub mod KeptLetters
pub mod DroppedTexts
pub mod LetterOrder
pub mod TextKept
pub mod EndedElements
pub mod StrictReferences
pub mod StrictTokens
pub mod StrictTrees
pub mod EndedTurns
