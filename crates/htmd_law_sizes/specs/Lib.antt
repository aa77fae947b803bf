-- How big documents and trees are, and how long what is written of them can be.
pub mod DocumentSizes
pub mod TreeSizes
pub mod SizeLaws
pub mod SimpleSizes
