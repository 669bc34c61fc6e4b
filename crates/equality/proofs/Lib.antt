pub mod Words
pub mod Known
pub mod Stays
