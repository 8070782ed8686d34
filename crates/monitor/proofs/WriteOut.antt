-- OUT.
pub mod Outs
pub mod Outgoings
pub mod Serves
pub mod Calls
pub mod ByJobs
pub mod Placed
