pub mod Places
pub mod Loops
