-- Small histories that break the premise of a law, of which what it says is computed to be false. By
-- computation alone.
pub mod Refuting
pub mod Runs
pub mod Histories
pub mod Settled
pub mod Oldest
pub mod Causes
