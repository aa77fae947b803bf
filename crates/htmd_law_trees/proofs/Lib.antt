-- The lemmas of the laws, each module over those before it: of the grammar, and of the conversion.
pub mod FieldLawsLemmas
pub mod OneParagraphLawsLemmas
pub mod ParameterLaw
pub mod FrontsReached
pub mod OneFault
pub mod LinkLawsLemmas
pub mod KeepingLemmas
pub mod NumbersLemmas
pub mod ListLawsLemmas
pub mod ContentLawsLemmas
pub mod GroupCuts
pub mod EmphasisLawsLemmas
