-- How a document is written as Markdown: kinds of characters, texts, addresses and titles, code; marks
-- and inlines; lines of containers, tables, blocks and the whole document.
pub mod CharacterKinds
pub mod LineMarks
pub mod References
pub mod TextEscapes
pub mod Addresses
pub mod CodeSpans
pub mod Fences
pub mod WrittenText
pub mod Marks
pub mod MarkViews
pub mod InlineEnds
pub mod InlineMarkdown
pub mod Pages
pub mod PlainTexts
pub mod Columns
pub mod TableLines
pub mod BlockMarkdown
pub mod DocumentMarkdown
pub mod BlockViews
