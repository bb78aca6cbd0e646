pub mod Criteria
pub mod Owing
pub mod Watching
pub mod Numbers
pub mod Clocks
pub mod Readiness
