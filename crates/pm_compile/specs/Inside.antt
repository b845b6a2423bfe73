-- Models of private code: no public contract names them.
pub mod Spans
pub mod Ground
pub mod Appended
pub mod Heads
pub mod Building
pub mod Clauses
pub mod Lines
