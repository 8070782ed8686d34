pub mod AsciiLaws
pub mod BlockLaws
mod Digits
mod LaneLaws
pub mod NineLaws
pub mod OctetLaws
pub mod OctetReaderLaws
mod OctetRows
mod SixbitLaws
