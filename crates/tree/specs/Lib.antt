pub mod Passes
pub mod Places
pub mod Holds
pub mod Masks
pub mod Host
pub mod Scopes
pub mod Right
pub mod Filled
