pub mod Reading
pub mod Kept
pub mod Agreeing
pub mod Carrying
