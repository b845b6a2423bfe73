pub mod Counts
pub mod HostLibrary
pub mod Inside
pub mod MemoryLibrary
pub mod MemorySink
pub mod Outside
