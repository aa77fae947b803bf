-- The laws of the texts of documents.
pub mod TextLaws
