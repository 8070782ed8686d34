-- ENTER on a channel that reads a file: it updates or appends.
pub mod Updates
pub mod Rows
pub mod Calls
pub mod ByJobs
