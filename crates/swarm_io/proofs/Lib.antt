pub mod MovedLemmas
