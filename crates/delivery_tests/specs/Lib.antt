pub mod CustomerExamples
pub mod SellerExamples
