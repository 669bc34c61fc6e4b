pub mod Bits
pub mod Laws
pub mod Pass
pub mod Tables
pub mod Walk
