-- What is the document of a tree.
pub mod Anchors
pub mod FirstPieces
pub mod LeadingViews
pub mod Leadings
pub mod Limits
pub mod PieceViews
pub mod Seen
pub mod TargetViews
pub mod Targets
pub mod TreeDocuments
pub mod WrittenViews
