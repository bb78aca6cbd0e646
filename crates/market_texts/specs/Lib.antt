pub mod Reading
pub mod Readers
pub mod Cutting
pub mod Workload
pub mod FaultTexts
