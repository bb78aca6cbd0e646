mod Entries
pub mod CopyCells
pub mod Names
pub mod Taking
