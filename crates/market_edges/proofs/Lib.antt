pub mod RowLists
pub mod Totals
