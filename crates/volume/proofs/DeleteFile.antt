-- A file is deleted.
pub mod Entries
pub mod Removals
pub mod Places
pub mod Memory
pub mod Law
pub mod Transactions
