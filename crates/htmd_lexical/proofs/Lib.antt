-- Lemmas on characters, runs of them, names and tags.
pub mod Cases
pub mod BooleanLemmas
pub mod RunsLemmas
pub mod CharacterClassesLemmas
pub mod LineEndsLemmas
pub mod NumbersLemmas
pub mod NamesLemmas
pub mod AnyCaseLemmas
pub mod LeadingRunsLemmas
pub mod QuotedValuesLemmas
pub mod BytesLemmas
