pub mod Amounts
pub mod Tables
pub mod Holds
pub mod Cells
