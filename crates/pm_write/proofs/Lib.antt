pub mod PendingText
pub mod OverSymbols
