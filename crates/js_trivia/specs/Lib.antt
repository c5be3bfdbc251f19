pub mod Attachment
pub mod Builder
pub mod Marks
pub mod Pieces
pub mod Trivia
pub mod Words
