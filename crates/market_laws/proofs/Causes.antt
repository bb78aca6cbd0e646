-- Each kind of a checkout's events: it is made in the block of one that causes it, whole and in order, and
-- once on each link. From Origins, Fits and Runs; one file for each kind of event.
pub mod Blocks
pub mod Replies
pub mod Counts
pub mod StockReplies
pub mod Invoices
pub mod Payments
pub mod Shipments
pub mod Endings
pub mod Reserves
pub mod Tellings
pub mod Deliveries
pub mod FewOnLinks
pub mod FewInAll
