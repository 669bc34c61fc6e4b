pub mod Bools
pub mod EffectLaws
pub mod NameSetLaws
pub mod OrderLaws
pub mod Ranges
pub mod SetLaws
