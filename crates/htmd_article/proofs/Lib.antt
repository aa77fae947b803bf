-- Lemmas on the main content of pages.
pub mod NamesLemmas
pub mod PartsLemmas
pub mod KnownLemmas
pub mod TurnsLemmas
pub mod FramesLemmas
pub mod MadeLemmas
pub mod OutermostLemmas
pub mod LaidLemmas
pub mod WritingLemmas
pub mod TopLinksLemmas
pub mod BelowLemmas
pub mod ContentLemmas
mod Examples
