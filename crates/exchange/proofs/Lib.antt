pub mod ListLaws
pub mod TurnSteps
pub mod ReplyLaws
pub mod PutLaws
pub mod OrderLaws
pub mod TurnLaws
pub mod StreamLaws
pub mod ServeLaws
