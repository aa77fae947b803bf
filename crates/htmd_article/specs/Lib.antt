-- What the main content of a page is: letters, names, what attributes say, what is known of a node, the frame of a
-- page,
-- what the page says, density, links above the content, and what is written. The last two, how parts and choices are
-- kept, serve private functions alone.
pub mod Letters
pub mod Names
pub mod Sayings
pub mod Facts
pub mod Parts
pub mod Frames
pub mod Outermost
pub mod Choices
pub mod Density
pub mod TopLinks
pub mod Writing
pub mod Articles
pub mod PartViews
pub mod ChoiceViews
