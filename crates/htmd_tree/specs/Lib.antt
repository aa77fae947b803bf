-- What the reader answers: the body of a page, and lines and columns. The others serve private functions alone: the
-- reader's places and open elements as those of the grammar's steps, and the parts of tags and texts.
pub mod OpenItems
pub mod NodeValues
pub mod Bodies
pub mod BodyLaws
pub mod Lines
pub mod DecodedCharacters
pub mod KnownNames
pub mod Surroundings
pub mod OpenNodes
pub mod NewNodes
pub mod Advances
pub mod Classes
pub mod TagParts
pub mod TextRuns
