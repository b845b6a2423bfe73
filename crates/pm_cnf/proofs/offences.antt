pub mod FirstOffence
pub mod Deciding
pub mod Passing
pub mod Within
