pub mod State
pub mod Labels
pub mod Taken
pub mod Laws
pub mod Node
pub mod Value
pub mod Inside
