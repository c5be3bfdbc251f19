pub mod Counts
pub mod Drive
pub mod Run
pub mod Words
