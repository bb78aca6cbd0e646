pub mod Rows
pub mod Shelves
pub mod FaultTexts
pub mod Happening
pub mod Reading
