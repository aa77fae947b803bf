-- How a tag is found; what an addition changes; how the value tree and the ancestors of a node are made of those of
-- others; what a search of a tree finds; what a document that is laid out denotes; how a node is written, and what its
-- raw HTML reads back as.
pub mod TagLemmas
pub mod ItemsLemmas
pub mod EntriesLemmas
pub mod NumberedTreesLemmas
pub mod SearchLemmas
pub mod AncestorsLemmas
pub mod LayoutLemmas
pub mod SerialiserLemmas
mod Examples
