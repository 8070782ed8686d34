pub mod AllowedActs
