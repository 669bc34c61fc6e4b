pub mod Entry
pub mod Known
