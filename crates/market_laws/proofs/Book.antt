-- In settled histories every table is the sum of what was accepted: one file for each kind of table. From
-- Settled.
pub mod Copies
pub mod Payments
pub mod Orders
pub mod Stock
pub mod Baskets
pub mod SellerPoints
pub mod InProgress
pub mod Tables
