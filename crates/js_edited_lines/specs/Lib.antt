pub mod Content
pub mod Edited
pub mod Starts
