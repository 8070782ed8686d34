-- A directory gets another quota.
pub mod Memory
pub mod Law
pub mod Transactions
