pub mod CartTrialing
pub mod ProductTesting
pub mod StockTesting
