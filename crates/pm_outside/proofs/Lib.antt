pub mod Fetches
pub mod Lookups
pub mod Puts
pub mod Reading
pub mod Writing
