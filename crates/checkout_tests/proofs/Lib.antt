pub mod OrderTesting
pub mod PaymentTesting
