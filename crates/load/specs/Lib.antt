pub mod Loads
pub mod Cases
