-- Values that are well formed, the same, or in order, and lists of them. Stands on the definitions of values
-- alone.
pub mod Offers
pub mod Totals
pub mod Lists
pub mod Entries
pub mod Same
pub mod Keys
pub mod Formed
