-- The laws, in reading order: of the grammar; of the content, of children, emphasis, links and lists.
pub mod OneParagraphLaws
pub mod FieldLaws
pub mod GrammarLaws
pub mod ContentLaws
pub mod GroupLaws
pub mod EmphasisLaws
pub mod LinkLaws
pub mod ListLaws
