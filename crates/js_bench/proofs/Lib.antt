pub mod PassLemmas
pub mod Passes
