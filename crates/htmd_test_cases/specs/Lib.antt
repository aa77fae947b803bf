-- How a text stands in a line.
pub mod Encodings
