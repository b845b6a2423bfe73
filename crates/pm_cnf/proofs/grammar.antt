pub mod Follows
pub mod Forward
pub mod Stages
pub mod Backward
pub mod Viable
