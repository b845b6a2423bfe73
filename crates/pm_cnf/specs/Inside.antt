pub mod Machine
pub mod Draft
pub mod Parsed
pub mod Progress
pub mod Readable
pub mod Parts
