mod HandleValues
pub mod ValueLemmas
