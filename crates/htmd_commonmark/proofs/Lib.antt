-- Lemmas on the Markdown of documents.
pub mod CharacterKindsLemmas
pub mod TextEscapesLemmas
pub mod PlainTextsLemmas
pub mod AddressesLemmas
pub mod PagesLemmas
pub mod ColumnsLemmas
pub mod TableLinesLemmas
pub mod BlocksLemmas
pub mod InlineEndsLemmas
pub mod InlinesLemmas
pub mod HeadingEndsLemmas
pub mod InlineExamples
