pub mod Tables
pub mod Holds
pub mod Dashboards
pub mod Cells
