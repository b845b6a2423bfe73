pub mod Determined
pub mod WorksLemmas
