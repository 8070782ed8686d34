pub mod WriteLaws
pub mod ListLaws
pub mod FirstRings
pub mod AreaLaws
