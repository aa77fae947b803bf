-- Characters and white space, classes of characters, and the words of HTML that all readers know: attributes, line
-- ends, numbers, end tags, and the parts of a start tag.
pub mod Characters
pub mod WhiteSpace
pub mod BlankLines
pub mod AttributePairs
pub mod Attributes
pub mod CharacterClasses
pub mod LineEnds
pub mod ByteOrderMarks
pub mod EndTags
pub mod Numbers
pub mod TagReading
