pub mod Places
pub mod Arriving
pub mod Starting
pub mod LanesInside
pub mod CoresInside
pub mod Cells
pub mod Waiting
pub mod Sound
