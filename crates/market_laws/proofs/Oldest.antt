-- Lawful histories are settled or have one oldest outstanding event, which is taken where it is offered.
-- From Pasts and Bounds.
pub mod Places
pub mod Taken
pub mod Links
pub mod Walk
pub mod Only
