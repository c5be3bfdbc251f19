pub mod Decoded
pub mod Found
pub mod Gaps
pub mod Goals
pub mod Simple
pub mod Reader
pub mod Spellings
pub mod Tables
