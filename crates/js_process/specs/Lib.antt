pub mod Exit
pub mod Memory
pub mod Outside
pub mod Programs
pub mod Reads
pub mod Status
pub mod TextRun
pub mod Writing
