pub mod OrderExamples
pub mod PaymentExamples
