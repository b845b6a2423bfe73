pub mod Notes
pub mod Standing
pub mod Laws
pub mod Inside
