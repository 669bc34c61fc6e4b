pub mod Building
pub mod Tables
pub mod Starts
