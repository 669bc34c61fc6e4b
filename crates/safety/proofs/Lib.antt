pub mod Accepting
pub mod FromContracts
