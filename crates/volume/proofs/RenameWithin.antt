-- A file gets another name or protection in its directory.
pub mod Entries
pub mod Renamings
pub mod Law
pub mod Places
pub mod Memory
pub mod Transactions
pub mod Refusals
