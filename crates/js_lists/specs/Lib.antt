pub mod Drive
pub mod Lists
pub mod LiveLists
pub mod LiveRows
pub mod Steps
pub mod Taken
