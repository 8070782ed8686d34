-- A file moves to another directory.
pub mod Places
pub mod Memory
pub mod Refusals
pub mod Arrivals
pub mod Departures
pub mod Moves
pub mod Law
pub mod Transactions
pub mod PrimesRead
