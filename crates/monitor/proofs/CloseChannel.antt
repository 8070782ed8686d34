-- CLOSE and RELEAS.
pub mod Rings
pub mod Closes
pub mod Publications
pub mod PublishedFiles
pub mod PublishedRows
pub mod PublishedStates
pub mod PublishedAnswers
pub mod Sides
pub mod Serves
pub mod Closings
