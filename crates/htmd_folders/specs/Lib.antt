-- What a store holds by the changes that were made to it, and what a run of pages changes.
pub mod Changes
pub mod Listings
pub mod Pages
pub mod FolderConversions
pub mod MemoryViews
pub mod Plans
pub mod PlanViews
pub mod Hints
