pub mod Support
pub mod Pairs
pub mod Steps
