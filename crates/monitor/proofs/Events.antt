-- Events, one after the other, from a start.
pub mod Started
pub mod Lists
pub mod Starts
pub mod CoreWords
pub mod Deposits
pub mod EventCrashes
pub mod Listed
pub mod Along
pub mod MomentRuns
pub mod Stills
