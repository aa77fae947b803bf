-- Value trees, and what they are written as.
pub mod ValueTrees
pub mod Serialisation
pub mod RawBlocks
pub mod SerialiserSteps
