pub mod SupportLemmas
pub mod NoteLemmas
pub mod PairLemmas
pub mod LeavesLemmas
pub mod TurnLemmas
pub mod UnifyingLemmas
pub mod OccurrenceLemmas
