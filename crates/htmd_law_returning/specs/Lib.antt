-- The page of what is read of Markdown, what is settled, and the law that the page's document is what was read.
pub mod RenderedPages
pub mod PlainImages
pub mod NoAnchors
pub mod FittedRows
pub mod WholeLines
pub mod SettledTables
pub mod ElementPlaces
pub mod SettledDocuments
pub mod LastingAnchors
pub mod EncodedDocuments
pub mod PageFormats
pub mod ReturningLaws
pub mod ComingBack
