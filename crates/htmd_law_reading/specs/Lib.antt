-- What is read of what is written of a document.
pub mod ReadingLaws
pub mod PieceLaws
