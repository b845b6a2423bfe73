pub mod Inside
pub mod Lanes
