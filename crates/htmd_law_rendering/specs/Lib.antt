-- The trees that what is read of Markdown stands for, how its HTML spells them, and the laws.
pub mod SpelledTrees
pub mod RawTags
pub mod RenderedTrees
pub mod PlainReadings
pub mod RenderingLaws
pub mod DocumentLaws
