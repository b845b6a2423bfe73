pub mod Text
pub mod Lines
pub mod Sample
pub mod Summary
pub mod Inside
