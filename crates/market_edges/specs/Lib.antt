pub mod Counts
pub mod Faults
pub mod Sources
pub mod Sinks
pub mod Shelves
pub mod MemoryShelves
