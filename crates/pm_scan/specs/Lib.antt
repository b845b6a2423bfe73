pub mod Words
pub mod Lexemes
pub mod View
pub mod Forms
pub mod Inside
