-- Models of private code: no public contract names them.
pub mod Adding
pub mod Counting
pub mod Drawing
pub mod Known
pub mod Numbering
pub mod Passing
pub mod Standing
pub mod Steps
pub mod Watched
