pub mod Attempts
pub mod Turns
pub mod Standing
pub mod Cuts
pub mod Laws
pub mod Work
pub mod Inside
