pub mod LevelLemmas
pub mod SettleLemmas
