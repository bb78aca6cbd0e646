-- In settled histories each kept request has its reply, and each checkout is whole or undone, field by
-- field. From Views, Runs and Causes: what was made on a link is what was taken on it, so the laws on runs
-- join to one chain.
pub mod Passing
pub mod Links
pub mod Counts
pub mod FirstReply
pub mod Lanes
pub mod Replies
pub mod Ways
pub mod Stock
pub mod WholePayments
pub mod Orders
pub mod WholePackages
pub mod Sellers
pub mod WholeEntries
pub mod Undone
pub mod Decided
pub mod Outcomes
pub mod PaidWhole
