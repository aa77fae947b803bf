-- What leaves of documents of pages are like.
pub mod Leaves
pub mod BareBreaks
pub mod NeatLeaves
pub mod StandingElements
pub mod CommonDocuments
pub mod PageLaws
pub mod Rounds
