-- The definitions that the contracts cite, in reading order: white space squeezed, how texts are cut and put
-- together, names of blocks, numbers, how a line begins, the escapes and what they are for. The last two serve private
-- functions alone.
pub mod SqueezedTexts
pub mod Trims
pub mod Beginnings
pub mod Joins
pub mod Indents
pub mod Blocks
pub mod Digits
pub mod ListMarkers
pub mod EscapedPlaces
pub mod Unescape
pub mod PlainText
pub mod EscapeKinds
pub mod Replacement
