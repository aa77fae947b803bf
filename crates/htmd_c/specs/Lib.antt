-- What the numbers of the struct of options mean, and what a call answers by them.
pub mod Options
pub mod PageOptions
pub mod CallResults
