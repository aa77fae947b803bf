-- The law of anchors.
pub mod DocumentMarks
pub mod DocumentLinks
pub mod ShownThings
pub mod AnchorLaws
