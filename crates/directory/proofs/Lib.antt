mod GrownLists
pub mod Orders
pub mod KeyPlaces
pub mod GatheredEntries
mod OutsideEntries
mod Images
mod BlockEntries
pub mod AddedEntries
mod ChainBlocks
pub mod FoundEntries
mod Windows
pub mod ChainPuts
mod ChainEdits
pub mod EditedEntries
mod Steps
mod Reserves
mod SortedEntries
