-- Models of private code: no public contract names them.
pub mod Ready
pub mod Ground
pub mod Running
pub mod Uniting
pub mod Example
