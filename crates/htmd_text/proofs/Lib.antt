-- Worked rows, and the lemmas on each module of definitions.
pub mod Examples
pub mod BeginningsLemmas
pub mod ListMarkersLemmas
pub mod BlocksLemmas
pub mod EscapedPlacesLemmas
pub mod EscapeKindsLemmas
pub mod UnescapeLemmas
pub mod PlainTextLemmas
pub mod TrimsLemmas
pub mod JoinsLemmas
pub mod IndentsLemmas
pub mod DigitsLemmas
pub mod WhiteSpaceLemmas
