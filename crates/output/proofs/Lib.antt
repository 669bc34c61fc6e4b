pub mod ColumnLaws
pub mod DeskLines
pub mod Examples
pub mod LineLaws
pub mod SheetExactly
pub mod SheetLaws
pub mod SheetSays
