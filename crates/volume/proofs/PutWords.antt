-- Words are put into a version.
pub mod Memory
pub mod Disk
