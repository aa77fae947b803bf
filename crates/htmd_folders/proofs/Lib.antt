-- Lemmas of what a run changes.
pub mod FolderConversionsLemmas
pub mod ChangesLemmas
pub mod CopiesLemmas
pub mod LawsLemmas
pub mod ListingsLemmas
pub mod OperandsLemmas
pub mod PlansLemmas
pub mod ApartLemmas
