pub mod Sorts
pub mod Acts
pub mod Limit
pub mod Codes
