-- The tokens of a page by the HTML Standard, in reading order: what is read, the tokens, references by name,
-- references, characters, tags, comments, doctypes, raw texts, the next token. The last six serve private functions
-- alone.
pub mod Preprocessing
pub mod Tokens
pub mod NamedReferences
pub mod References
pub mod Contents
pub mod Tags
pub mod Comments
pub mod Doctypes
pub mod RawTexts
pub mod NextToken
pub mod Classes
pub mod ReferenceViews
pub mod AppendedCharacters
pub mod TagViews
pub mod Firsts
pub mod Readings
