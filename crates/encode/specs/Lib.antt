pub mod Laid
pub mod Entries
pub mod Penned
pub mod Shows
