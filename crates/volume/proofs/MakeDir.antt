-- A directory is made.
pub mod Transactions
pub mod Law
pub mod Entries
pub mod MadeDirectories
pub mod Places
