-- What holds of one service after any run: what it makes has a cause in what it took, and is made once.
-- Stands on the definitions of what services answer alone, and on no histories.
pub mod Counts
pub mod Causes
pub mod Cart
pub mod Products
pub mod Stock
pub mod Orders
pub mod Payments
pub mod Apart
pub mod Shipments
pub mod ToldOnce
pub mod Lanes
pub mod CartReplies
pub mod SellerOrder
pub mod SellerStatuses
pub mod SellerEntries
pub mod PaymentOutcomes
pub mod Gathered
pub mod SellerPoints
