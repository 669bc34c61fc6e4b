pub mod Entries
pub mod Empty
pub mod Begun
pub mod Held
