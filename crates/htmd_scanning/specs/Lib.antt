-- What a class of characters has to be, for a text to be cut after a run of it; what the parts of a tag are, as readers
-- hold them.
pub mod Runs
pub mod TagParts
