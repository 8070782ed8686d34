mod CopyLaws
pub mod Record
pub mod FuseRuns
