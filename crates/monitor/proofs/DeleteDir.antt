-- DeleteDir.
pub mod Calls
pub mod States
pub mod Asked
pub mod Serves
