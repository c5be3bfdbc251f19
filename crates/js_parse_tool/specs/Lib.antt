pub mod Arrow
pub mod Covered
pub mod Depth
pub mod Drawn
pub mod Shown
pub mod Trees
