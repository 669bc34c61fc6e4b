pub mod Bytes
pub mod Shapes
pub mod Entries
pub mod OpBytes
