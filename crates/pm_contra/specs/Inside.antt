-- Models of private code: no public contract names them.
pub mod Entries
pub mod Ranges
pub mod Example
