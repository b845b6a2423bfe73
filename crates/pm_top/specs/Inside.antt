-- Models of private code: no public contract names them.
pub mod Stops
pub mod Found
pub mod Says
pub mod Ends
