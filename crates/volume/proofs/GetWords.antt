-- Words of a version are read.
pub mod ReadWords
