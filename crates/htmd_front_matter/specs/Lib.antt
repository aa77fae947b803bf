-- What the head of a page says of it, and the lines of YAML or the JSON for it.
pub mod Sources
pub mod Values
pub mod Lines
pub mod Objects
pub mod Titles
