pub mod Chosen
pub mod Handle
pub mod Held
