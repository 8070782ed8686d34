-- Readers come and go.
pub mod Pins
pub mod PinnedFiles
pub mod CountedReaders
