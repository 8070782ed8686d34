-- A version is dropped.
pub mod Memory
