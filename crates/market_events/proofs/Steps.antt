-- What one more step makes of each sum of a service. From Values; one file for each sum or service.
pub mod Copies
pub mod Taken
pub mod Pieces
pub mod Reservations
pub mod Carts
pub mod Baskets
pub mod Orders
pub mod Shipments
pub mod SellerChanges
pub mod Payments
pub mod Customers
pub mod Products
pub mod Stock
pub mod SellerEntries
