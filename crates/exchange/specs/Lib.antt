pub mod Turns
pub mod Exchanges
