pub mod Grammar
pub mod Offences
pub mod Meaning
pub mod Laws
pub mod Limits
pub mod Refusals
pub mod Inside
