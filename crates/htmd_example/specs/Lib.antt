-- What the handlers of the examples mean.
pub mod Abbreviations
