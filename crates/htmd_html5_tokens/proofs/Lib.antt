-- Lemmas of the proofs: where texts may be cut; names and references; raw texts.
pub mod RunCuts
pub mod PreprocessingLemmas
pub mod BeginningsLemmas
pub mod NamesLemmas
pub mod ReferencesLemmas
pub mod ContentsLemmas
pub mod DoctypesLemmas
pub mod TagsLemmas
pub mod FirstsLemmas
pub mod RawTextsLemmas
pub mod SectionsLemmas
pub mod NextTokenLemmas
mod Examples
