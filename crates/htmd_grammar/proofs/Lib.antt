-- The lemmas of the grammar: what is written and read back, the steps of a reader, fronts, faults, and worked examples.
pub mod NestingLemmas
mod ReferencedLineFeeds
mod EscapeLemmas
mod TagNamesLemmas
pub mod TagsLemmas
pub mod ReadBackLemmas
pub mod PreludeLemmas
pub mod TagReadingLemmas
pub mod TagSpellingLemmas
pub mod TextLemmas
pub mod CommentsLemmas
pub mod ReferencesLemmas
pub mod TreeTexts
pub mod Completeness
pub mod Uniqueness
mod RawReadBack
mod LackLemmas
mod Subtrees
pub mod CutLemmas
mod FullPieces
pub mod FrontsLemmas
pub mod Soundness
pub mod Readings
mod ViablePrefixes
pub mod FaultPieces
pub mod LowerFaults
pub mod StepFaults
pub mod RightFaults
mod ComputedSteps
mod FaultExamples
mod TextsLeft
mod DenotationExamples
mod RefusalExamples
mod ReadBackExamples
