pub mod Answer
pub mod Passes
pub mod Places
pub mod Heads
pub mod Uses
pub mod Binders
