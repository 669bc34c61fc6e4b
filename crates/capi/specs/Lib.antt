pub mod Runs
pub mod Checks
pub mod Sessions
pub mod RunSafety
pub mod Sheets
