pub mod SenderStates
pub mod Senders
pub mod Slots
