pub mod SqueezeText
