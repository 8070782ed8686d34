pub mod Moments
pub mod Orders
pub mod Words
pub mod Spellings
pub mod Fronts
