pub mod Written
pub mod Sums
pub mod Deliveries
pub mod Steps
pub mod TableCells
pub mod Values
pub mod Touches
