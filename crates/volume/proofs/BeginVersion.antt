-- A version is begun.
pub mod BegunFiles
pub mod Counts
pub mod Beginnings
