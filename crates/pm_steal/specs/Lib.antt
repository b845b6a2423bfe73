pub mod History
pub mod Shown
