pub mod Counted
pub mod Seen
pub mod Applied
