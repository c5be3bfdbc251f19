-- The texts of tokens.
use Rattle.std.specs.Prelude.{ℕ, Bool, true, false, List}
use Rattle.std.specs.Str.{chars}
use Rattle.js_text.specs.JsStr.{units_of}
use Rattle.js_text.specs.declared.js_text.JsText.{JsText}
use Rattle.js_text.specs.declared.js_text.JsText.TheVariants.{Source, Decoded}

-- the text was decoded, and is no stretch of the source
abbrev pub is_decoded : JsText → Bool
is_decoded (Source text) = false
is_decoded (Decoded text) = true

-- the UTF-16 units of the text
abbrev pub js_text_units : JsText → List ℕ
js_text_units (Source text) = units_of (chars text.now)
js_text_units (Decoded text) = text.now
