-- Which words of its core a call may change.
pub mod Areas
pub mod Rows
pub mod States
pub mod Words
pub mod Calls
