pub mod Faults
pub mod Html
