-- All entries of lawful histories are few: each link has a weight, what a service makes of a body weighs no
-- more than the body. From Growth; no row of causes is used.
pub mod LinkEnds
pub mod Sums
pub mod LinkSums
pub mod Weights
pub mod Costs
pub mod Events
pub mod Journals
pub mod Few
pub mod PastCounts
