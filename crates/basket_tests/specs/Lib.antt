pub mod CartTrials
pub mod StockExamples
