-- Models of private code: no public contract names them.
pub mod Images
pub mod Matching
pub mod Siblings
pub mod Sights
pub mod Passing
pub mod Ready
pub mod Example
