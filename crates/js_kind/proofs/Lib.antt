pub mod Classes
pub mod Digits
pub mod KindNumbers
pub mod Members
pub mod NameKinds
pub mod Packing
mod NameKeys
mod WordTable
