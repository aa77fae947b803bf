-- Where a text may be cut: after characters with which it begins, and after a run of characters of one class. How much
-- is left after a part of a tag.
pub mod BeginningsLemmas
pub mod RunCuts
pub mod PartSizesLemmas
