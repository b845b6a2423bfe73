pub mod Tasks
pub mod Reads
