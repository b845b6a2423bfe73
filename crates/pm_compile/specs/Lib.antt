pub mod Instructions
pub mod Scheme
pub mod Code
pub mod Laws
pub mod Listing
pub mod Inside
