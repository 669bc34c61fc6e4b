pub mod Answer
pub mod Ops
pub mod Commands
