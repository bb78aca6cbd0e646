pub mod Tables
pub mod Deliveries
pub mod Holds
pub mod Cells
