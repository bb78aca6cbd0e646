pub mod Lines
pub mod Left
pub mod Steps
pub mod TableCells
pub mod Values
pub mod Touches
