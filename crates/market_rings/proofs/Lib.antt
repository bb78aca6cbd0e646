pub mod Holding
pub mod Linking
pub mod Sending
pub mod Wired
pub mod Taking
