-- The examples of the definitions hold, by computation. On nothing else.
pub mod Products
pub mod Cart
pub mod Stock
pub mod Orders
pub mod Payments
pub mod Shipments
pub mod Customers
pub mod Sellers
pub mod FitCart
pub mod FitStock
pub mod FitOrders
pub mod FitPayments
pub mod FitSellers
pub mod Base
pub mod Cells
