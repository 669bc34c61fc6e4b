pub mod Filling
pub mod Going
pub mod Whole
pub mod Ancestors
pub mod Turn
pub mod Zeros
pub mod ReadTables
pub mod ByByte
