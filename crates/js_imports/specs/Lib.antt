pub mod Classes
pub mod Imports
pub mod Moves
pub mod Scans
