-- Back from an event that was taken to where it was made, and to what its sender took before it. From Growth
-- and Clocks, and the runs of services.
pub mod Cuts
pub mod Places
pub mod Senders
pub mod Causes
pub mod Back
pub mod Once
pub mod Made
