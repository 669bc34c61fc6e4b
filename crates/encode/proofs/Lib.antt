pub mod Laying
pub mod Items
pub mod Pens
pub mod Entered
pub mod Sections
pub mod Whole
