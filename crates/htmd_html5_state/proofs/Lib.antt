-- Lists that are held in the other order; the stack of open elements, the list of active formatting elements,
-- documents; texts that go on.
pub mod StackLemmas
pub mod ForeignPlacesLemmas
pub mod PlacesLemmas
pub mod ForeignLemmas
pub mod FormattingLemmas
pub mod DocumentLemmas
pub mod AppendedTextsLemmas
mod Examples
pub mod NamesLemmas
pub mod TagLemmas
pub mod AdoptionLemmas
pub mod ResettingLemmas
