pub mod Passed
pub mod Counts
pub mod Noting
pub mod Offers
pub mod Slots
pub mod Turning
pub mod Windows
pub mod LaneTurns
