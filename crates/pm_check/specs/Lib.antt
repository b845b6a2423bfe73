pub mod Kinds
pub mod PlacedNodes
pub mod Offences
pub mod Verdicts
pub mod Laws
pub mod Inside
