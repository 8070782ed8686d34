pub mod Puts
pub mod Crashes
pub mod Reads
pub mod Rest
pub mod PutLaws
pub mod Common
