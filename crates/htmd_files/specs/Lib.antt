-- What the program does with files: names and paths, the words of the command line, and the plan.
pub mod Names
pub mod NameViews
pub mod Paths
pub mod PlaceViews
pub mod Relative
pub mod Words
pub mod WordViews
pub mod FilePlans
pub mod PlanViews
pub mod Promises
