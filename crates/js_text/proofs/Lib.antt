pub mod CharacterLemmas
pub mod JsStrLemmas
pub mod ListLemmas
pub mod TextLemmas
