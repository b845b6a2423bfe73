-- Models of private code: no public contract names them.
pub mod LiteralCode
pub mod Index
pub mod Interned
pub mod NodeCode
pub mod Codes
