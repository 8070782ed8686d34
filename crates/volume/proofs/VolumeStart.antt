-- A start: the map of a disk is found or refused, and a new volume is written.
pub mod Quotas
pub mod HomeCopies
pub mod FreshTable
pub mod FreshVolume
pub mod FileFaults
pub mod FoundFiles
pub mod FoundDirectories
pub mod FaultyDirectories
pub mod FaultyMaps
pub mod FoundMaps
pub mod Opens
pub mod Starts
pub mod LiveVersions
pub mod ReadTurns
