pub mod Unified
pub mod Inside
