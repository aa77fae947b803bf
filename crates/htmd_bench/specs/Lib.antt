-- How large the answers are that the program tells.
pub mod Work
