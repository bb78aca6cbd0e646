pub mod Fates
pub mod LinkEnds
pub mod NodeEnds
pub mod Pushes
pub mod RingEnds
pub mod Views
pub mod Wiring
