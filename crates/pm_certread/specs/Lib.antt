pub mod Lines
pub mod Forms
pub mod Certificate
pub mod Reading
pub mod Kinds
pub mod Refusals
pub mod Laws
pub mod Inside
