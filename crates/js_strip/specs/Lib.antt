pub mod StripText
