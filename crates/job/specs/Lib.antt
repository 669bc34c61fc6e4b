pub mod After
pub mod Answer
pub mod Lent
pub mod ReadTables
