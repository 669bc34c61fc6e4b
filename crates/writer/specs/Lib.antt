pub mod Sends
pub mod Lent
