pub mod Key
pub mod Toy
pub mod Inside
