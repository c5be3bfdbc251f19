pub mod CutBack
pub mod Front
pub mod GapLaw
pub mod Last
pub mod Law
pub mod Licences
pub mod Marking
pub mod PieceLaw
pub mod Ranges
pub mod Starts
pub mod Steps
pub mod Twice
pub mod Walk
mod WordSteps
