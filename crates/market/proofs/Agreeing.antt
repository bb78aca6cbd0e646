-- Each service's sums stay in step with what was accepted, input by input. On what one more step makes of
-- each sum.
pub mod Checkouts
pub mod Packages
pub mod Orders
pub mod Payments
pub mod Customers
pub mod Shipments
pub mod Stocks
pub mod Sellers
pub mod Baskets
pub mod Carts
pub mod Products
pub mod CheckoutLines
pub mod Staying
