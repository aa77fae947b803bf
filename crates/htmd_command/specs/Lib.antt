-- What the program makes of the bytes of files, and what it changes.
pub mod PageResults
pub mod Streams
pub mod Programs
