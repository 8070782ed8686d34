pub mod CoreWords
pub mod ByteSizes
pub mod Steps
pub mod FirstRings
pub mod Areas
pub mod Common
