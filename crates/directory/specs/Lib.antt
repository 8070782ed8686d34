pub mod Chains
pub mod ChainLaws
pub mod ChainRead
pub mod Spares
pub mod Indexes
pub mod Edits
pub mod Common
