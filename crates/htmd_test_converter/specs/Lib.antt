-- What the handlers of the tests ask for.
pub mod Plans
