-- Clocks rise along a journal and are at most the number of all entries; what holds of all events with
-- smaller clocks holds of all. From Growth.
pub mod Bounded
pub mod Rising
pub mod Induction
