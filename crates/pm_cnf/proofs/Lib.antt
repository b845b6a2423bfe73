pub mod Lists
pub mod grammar
pub mod offences
pub mod meaning
pub mod parsed
pub mod parts
pub mod written
