-- What a tree is: its nodes in order of addition, the value tree of a node, its ancestors, what the texts and
-- attributes of the source stand for, how a document is laid out as a tree, frequent names. The last four, how a tree
-- lies in memory and how a tag is found, serve private functions alone.
pub mod Items
pub mod NumberedTrees
pub mod Ancestors
pub mod Views
pub mod Layout
pub mod Tags
pub mod ElementNames
pub mod AttributeValues
pub mod Levels
pub mod Entries
pub mod TagLookup
