pub mod ChooserLemmas
pub mod CodeLemmas
pub mod PlainLemmas
pub mod ScopeLemmas
pub mod StackLemmas
pub mod StepLemmas
