-- Models of private code: no public contract names them.
pub mod Frames
pub mod History
pub mod Running
