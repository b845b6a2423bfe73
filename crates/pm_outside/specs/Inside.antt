-- Models of private code: no public contract names them.
pub mod MemoryLibrary
pub mod MemorySink
pub mod Reading
