mod TextLemmas
pub mod LineLemmas
mod SampleLemmas
mod ValidLemmas
mod MarkLemmas
pub mod SummaryLemmas
