-- What a text says to a reader of CommonMark 0.31.2: characters, lines, blocks, inlines, lists, the whole, and its
-- HTML.
pub mod Characters
pub mod Lines
pub mod LinkDefinitions
pub mod Tables
pub mod Boxes
pub mod RawTags
pub mod BlockStarts
pub mod LeafBlocks
pub mod Containers
pub mod Markup
pub mod DelimiterRuns
pub mod InlineTokens
pub mod Brackets
pub mod Lists
pub mod Anchors
pub mod SeenMarkup
pub mod Elements
pub mod Reading
pub mod Rendering
