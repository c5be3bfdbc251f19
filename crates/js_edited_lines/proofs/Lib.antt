pub mod EditLemmas
pub mod GapLemmas
pub mod LineContent
