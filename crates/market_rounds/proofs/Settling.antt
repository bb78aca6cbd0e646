-- Rounds settle all: while anything is still to do, each round makes a measure smaller. The measure is four times the work that is
-- left, and how far the oldest outstanding event is from being taken. From what holds between rounds and the laws on the oldest event.
pub mod Sums
pub mod Lists
pub mod Growing
pub mod Windows
pub mod Oldest
pub mod Work
pub mod Falling
pub mod Going
pub mod Done
