pub mod Stored
pub mod Slots
pub mod Pending
