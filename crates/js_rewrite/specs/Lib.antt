pub mod Faults
pub mod Space
