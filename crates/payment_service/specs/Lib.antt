pub mod Tables
pub mod Holds
pub mod Cells
