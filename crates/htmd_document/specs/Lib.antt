-- Documents: their values, their normal form, and their form in JSON.
pub mod Formats
pub mod Documents
pub mod Tags
pub mod FlatDocuments
pub mod DocumentViews
pub mod FlatViews
pub mod LanguageNames
pub mod DocumentLimits
pub mod TightItems
pub mod Mdast
pub mod NormalInlines
pub mod NormalDocuments
pub mod AnchorIds
pub mod LoneAnchors
