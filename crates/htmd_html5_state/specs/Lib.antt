-- The state of tree construction and the steps on it (HTML Standard, 13.2.4 and 13.2.6), in reading order: names and
-- their sets; documents; the stack of open elements; the state; insertion; the list of active formatting elements; the
-- adoption agency; the reset of the insertion mode; foreign content. The last say what the program's parts are, and
-- where text needs nothing before it.
pub mod Names
pub mod Sets
pub mod Nodes
pub mod OpenElements
pub mod State
pub mod Insertion
pub mod Formatting
pub mod Adoption
pub mod Resetting
pub mod Foreign
pub mod Views
pub mod OpenViews
pub mod TagNumbers
pub mod SetMembers
pub mod ForeignPlaces
pub mod Places
pub mod FormattingViews
pub mod AdoptionViews
pub mod ForeignViews
pub mod ResettingViews
pub mod StateViews
pub mod AppendedTexts
