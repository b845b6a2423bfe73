pub mod Places
pub mod Moves
pub mod Tree
pub mod TreeLaws
