-- RENAME.
pub mod OutOfOrder
pub mod MovedFiles
pub mod MovedCore
pub mod Arrivals
pub mod MoveReplies
pub mod MovedStates
pub mod NoMemory
pub mod MoveServes
pub mod Moves
pub mod DeletedFiles
pub mod ChangeAnswers
pub mod Rows
pub mod DeletedStates
pub mod Deletions
pub mod Refusals
