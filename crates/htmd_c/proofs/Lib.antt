pub mod CallLemmas
mod Examples
