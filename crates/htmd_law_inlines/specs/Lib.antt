-- The inlines of documents: those that are normal, and that they are read back.
pub mod PlainReadings
pub mod ReadBack
