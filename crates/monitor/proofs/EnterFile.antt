-- ENTER on a channel that reads nothing.
pub mod Begins
pub mod Outcomes
pub mod Enters
pub mod Serves
pub mod Calls
pub mod Readers
pub mod Refusals
pub mod ByJobs
