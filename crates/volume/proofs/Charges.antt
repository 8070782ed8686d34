-- What a directory is charged for.
pub mod Charges
pub mod Sums
