pub mod Meaning
pub mod View
pub mod Own
pub mod Inner
pub mod Lent
