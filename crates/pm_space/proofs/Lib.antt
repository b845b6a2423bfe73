pub mod ToyLemmas
