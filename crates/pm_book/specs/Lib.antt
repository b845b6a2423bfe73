pub mod Rows
pub mod Steps
pub mod Always
pub mod Honest
pub mod Fronts
pub mod Shown
pub mod Answers
pub mod Inside
