-- IN.
pub mod Inputs
pub mod Words
pub mod AskedWords
pub mod Calls
pub mod ByJobs
