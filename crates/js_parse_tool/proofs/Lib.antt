pub mod Covering
pub mod Depths
pub mod Drawing
pub mod Showing
pub mod Stops
pub mod TreeSteps
