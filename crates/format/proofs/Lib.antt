pub mod Fit
pub mod Digits
pub mod Whole
