-- What an event counts in its past was made before it, and is causal order. From Origins.
pub mod Made
pub mod Ready
pub mod Places
pub mod Order
pub mod Counted
