pub mod CachedContents
mod Recalled
