mod WalkedWords
pub mod NamedWords
