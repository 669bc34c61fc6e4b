pub mod Names
pub mod Values
pub mod Rights
pub mod Jobs
