-- The lemmas of a conversion of a text; and of lists of children, for handlers of crates above.
pub use Rattle.htmd_walk.proofs.ChildListsLemmas
pub mod ConversionsLemmas
pub mod PageValuesLemmas
pub mod PageChangesLemmas
pub mod PageOutputsLemmas
pub mod PageSightsLemmas
