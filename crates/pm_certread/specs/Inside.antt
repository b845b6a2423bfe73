-- Models of private code: no public contract names them.
pub mod Words
pub mod Cuts
pub mod Wholes
pub mod Head
pub mod Progress
pub mod Terms
pub mod Nodes
