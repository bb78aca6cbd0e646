-- What holds at every moment: reserved pieces are those of the listed reservations, and copies are of first
-- changes. From Views and Causes.
pub mod ReservationSums
pub mod Reservations
pub mod CopyFronts
