-- The strict grammar, in reading order: the rules; characters, references, tags, comments, raw content, nesting, the
-- relation, the document; what is read back; steps of a reader and its open elements; fronts, faults and their names;
-- last the laws.
pub mod Rules
pub mod References
pub mod Tags
pub mod Comments
pub mod RawContent
pub mod Nesting
pub mod Grammar
pub mod HtmlDocuments
pub mod ReadBack
pub mod OpenElements
pub mod ReaderSteps
pub mod Fronts
pub mod Faults
pub mod FaultNames
pub mod Laws
