pub mod Dashes
pub mod Edits
