mod PutLists
mod Moments
pub mod LogRead
mod RecoveryCrashes
