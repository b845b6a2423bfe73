pub mod Lift
pub mod Inside
