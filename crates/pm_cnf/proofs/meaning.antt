pub mod Pairs
pub mod GatheredOnce
pub mod Nodes
pub mod ValidItems
pub mod Determined
pub mod ReadValid
