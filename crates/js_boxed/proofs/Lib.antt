pub mod LooseValues
pub mod Tokens
pub mod Values
mod Words
