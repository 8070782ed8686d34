-- A directory with no file is deleted.
pub mod Places
pub mod Tables
pub mod Memory
pub mod Law
pub mod Transactions
