pub mod Support
pub mod Comparing
pub mod Entries
pub mod Waiting
pub mod Trying
