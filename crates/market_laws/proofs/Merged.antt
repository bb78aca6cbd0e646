-- The merged schedule of lawful histories leaves them, and each of its steps acts. From Growth, Clocks and
-- Origins: the block that began last is taken away, and put back.
pub mod Order
pub mod Moves
pub mod Sent
pub mod Top
pub mod Split
pub mod Steps
pub mod Back
pub mod Replayed
