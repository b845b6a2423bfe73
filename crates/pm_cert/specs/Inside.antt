-- Models of private code: no public contract names them.
pub mod Listing
pub mod Lines
pub mod Nodes
pub mod Example
