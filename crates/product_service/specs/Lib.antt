pub mod Holds
pub mod Tables
pub mod Changing
pub mod Cells
