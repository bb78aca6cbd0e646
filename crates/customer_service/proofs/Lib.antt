pub mod Entries
pub mod Steps
pub mod Counts
pub mod Texts
pub mod Taken
pub mod TableCells
pub mod Values
pub mod Touches
