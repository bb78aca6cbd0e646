pub mod Rows
pub mod Steps
pub mod Changes
pub mod TableCells
pub mod Touches
pub mod Values
