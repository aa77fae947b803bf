-- What is read as parts, and what the contracts of private functions speak of.
pub mod Parts
pub mod PartViews
pub mod EscapedCharacters
pub mod Machine
