pub mod Courses
pub mod Pieces
pub mod Rooms
pub mod Writing
