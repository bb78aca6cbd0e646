pub mod CustomerTesting
pub mod SellerTesting
pub mod ShipmentTesting
