pub mod Listed
pub mod HeldSheet
pub mod SheetTold
