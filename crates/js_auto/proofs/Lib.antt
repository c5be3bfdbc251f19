pub mod ChooserLemmas
pub mod NotableLemmas
