-- What holds of a service after any run, and what a service stands for. From Steps: an induction over the
-- steps.
pub mod Stock
pub mod Orders
pub mod OrderStatuses
pub mod Shipments
pub mod Carts
pub mod Sellers
pub mod Products
pub mod Bounds
pub mod Totals
pub mod Looks
pub mod CheckoutLines
pub mod Packages
pub mod Dashboards
pub mod Standing
