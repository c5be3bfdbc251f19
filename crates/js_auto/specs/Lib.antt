pub mod Auto
pub mod Braces
pub mod Choice
pub mod DueLemmas
pub mod Notable
