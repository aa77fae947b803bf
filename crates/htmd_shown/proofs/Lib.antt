-- Lemmas on what shows.
pub mod AnyLemmas
pub mod BelowsLemmas
pub mod BlanksLemmas
pub mod Examples
pub mod LeadsLemmas
pub mod LineEndsLemmas
pub mod NodesLemmas
pub mod PageLemmas
pub mod RolesLemmas
pub mod ShapesLemmas
pub mod ShowingsLemmas
pub mod ShownTextsLemmas
pub mod SpacesLemmas
pub mod WalkLemmas
pub mod WhiteEndsLemmas
pub mod WordsLemmas
