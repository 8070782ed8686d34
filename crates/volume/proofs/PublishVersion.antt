-- A version becomes the file of its name.
pub mod Puts
pub mod Law
pub mod Entries
pub mod Keys
pub mod Slots
pub mod Memory
pub mod UsedVersions
pub mod StepPremises
pub mod CurrentVersion
pub mod Preallocs
pub mod Blocks
pub mod Transactions
pub mod Publications
pub mod Places
