-- The lemmas of the conversion, each module over those before it; and of the items of a tree, for crates above.
pub use Rattle.htmd_nodes.proofs.ItemsLemmas
pub mod Cuts
pub mod SeamsLemmas
pub mod UnescapedTextsLemmas
pub mod Nodes
pub mod BlockTagsLemmas
pub mod ChoiceLemmas
pub mod LatestLemmas
pub mod GroupsLemmas
pub mod ElementsLemmas
pub mod BeginningsLemmas
pub mod StayingLemmas
pub mod HandlersStayLemmas
pub mod ChildrenLemmas
pub mod RenderingLemmas
pub mod WalkingLemmas
pub mod RememberingLemmas
pub mod PassingLemmas
pub mod Steps
pub mod CodeLemmas
pub mod LayersLemmas
pub mod LinkAttributesLemmas
pub mod AnchorsLemmas
pub mod ChildListsLemmas
pub mod TableNodesLemmas
pub mod TableHeadersLemmas
pub mod TableTextsLemmas
pub mod TextEnds
pub mod ShownTexts
pub mod ParagraphTexts
pub mod ParagraphSeams
pub mod ParagraphLawsLemmas
mod Examples
mod ParagraphExamples
