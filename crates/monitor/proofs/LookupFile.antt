-- LOOKUP.
pub mod LookupAnswers
pub mod Lookups
pub mod Calls
