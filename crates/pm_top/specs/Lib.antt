pub mod Status
pub mod Files
pub mod Output
pub mod Run
pub mod Accepted
pub mod Inside
