pub mod Digits
pub mod Keywords
pub mod KindRows
pub mod Kinds
pub mod Packed
pub mod Predicates
pub mod TokenParts
