mod Acts
mod NameLaws
mod MovedParts
mod EachLaws
mod FaultLaws
pub mod QuietRuns
mod SaveLaws
mod ShownLaws
mod ClockLaws
