-- What of the texts of a page stands in its document.
pub mod Pieces
pub mod PageTexts
