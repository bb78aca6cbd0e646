-- What services make: few bodies, well formed, on links of their own that can carry them. From Runs; one
-- file for each service.
pub mod WellFormed
pub mod CartRuns
pub mod Cart
pub mod Customers
pub mod Joined
pub mod Orders
pub mod Payments
pub mod Products
pub mod AllRuns
pub mod Sellers
pub mod Shipments
pub mod Stock
