pub mod Jobs
pub mod Cases
