pub mod Hands
pub mod Enters
pub mod Owns
pub mod InPlace
pub mod Seeks
pub mod Mores
