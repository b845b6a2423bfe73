pub mod CountLemmas
pub mod PlaceLemmas
pub mod EntryLemmas
pub mod TopLemmas
pub mod RangeLemmas
pub mod IndexLemmas
pub mod ExampleLemmas
