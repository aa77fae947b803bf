-- The definitions that the contracts cite, in reading order; the last two are cited only by private functions.
pub use Rattle.htmd_streams.specs.Ends
pub use Rattle.htmd_encodings.specs.Labels
pub use Rattle.htmd_encodings.specs.Decoding
pub use Rattle.htmd_streams.specs.Lines
pub use Rattle.htmd_streams.specs.Fields
pub mod Failures
pub mod StreamConversions
pub mod ModeRuns
pub mod Options
pub mod Rows
pub mod OptionRows
pub mod Batches
