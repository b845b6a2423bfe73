pub mod WrittenWords
pub mod WrittenItems
pub mod Limited
pub mod WrittenLimits
pub mod WrittenProblem
pub mod WrittenBack
