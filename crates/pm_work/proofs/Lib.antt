pub mod PieceLemmas
pub mod FrontLemmas
pub mod TaskLemmas
