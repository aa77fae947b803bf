-- Lemmas of the proofs: runs of a text; foreign content; tokens that are processed again; texts; tags in the head, in
-- a `select` and in a table; texts in tables; the tokens of a text; documents as they are laid out.
pub mod RunLemmas
pub mod ForeignContentLemmas
pub mod ProcessingLemmas
pub mod TextsLemmas
pub mod AtOnceLemmas
pub mod HeadTagLemmas
pub mod InSelectLemmas
pub mod TableTagLemmas
pub mod InTableLemmas
pub mod Html5DocumentsLemmas
pub mod LayoutLemmas
mod Examples
mod LayoutExamples
