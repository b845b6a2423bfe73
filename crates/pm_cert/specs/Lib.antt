pub mod Terms
pub mod Ancestors
pub mod Text
pub mod Laws
pub mod Inside
