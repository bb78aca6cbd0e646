pub mod Cutting
pub mod WordCuts
pub mod WordReads
pub mod WordNumbers
pub mod WordNames
pub mod Joining
