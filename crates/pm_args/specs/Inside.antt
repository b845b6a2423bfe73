pub mod Found
pub mod Flat
