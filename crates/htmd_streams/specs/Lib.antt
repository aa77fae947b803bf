-- What the ends of a run promise, and what their bytes mean: the lines of a text and the fields of a line.
pub mod Ends
pub mod Lines
pub mod Fields
