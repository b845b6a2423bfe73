-- Models of private code: no public contract names them.
pub mod Complements
pub mod Tree
pub mod Walk
pub mod View
pub mod Example
