pub mod Values
pub mod Steps
pub mod Runs
pub mod Shapes
pub mod NamedCells
pub mod Computed
