pub mod Empty
pub mod Items
pub mod Names
pub mod Rows
pub mod Values
