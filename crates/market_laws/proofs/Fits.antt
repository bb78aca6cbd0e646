-- Each event that a service takes fits, and each reply that a lane is told comes in time: one file for each
-- service, by an induction over clocks. From Origins, Pasts and Runs.
pub mod FewSteps
pub mod Inputs
pub mod AskedByLanes
pub mod Asked
pub mod Replies
pub mod RepliesOnce
pub mod All
pub mod Cart
pub mod KindsOnLinks
pub mod Customers
pub mod Orders
pub mod Payments
pub mod Sellers
pub mod Shipments
pub mod Stock
pub mod CartLines
pub mod Changes
pub mod CopyMembers
pub mod BackToHeld
pub mod ItemsApart
pub mod BackToInvoices
pub mod SameOnTwoLinks
pub mod AloneOnLinks
