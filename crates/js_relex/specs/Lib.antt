pub mod Documents
pub mod Joined
pub mod Joining
pub mod Kept
pub mod LiveLists
pub mod Outlines
pub mod Patches
