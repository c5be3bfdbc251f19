-- The values of tokens as JSON.
use Rattle.std.specs.Prelude.{ℕ, Bool, true, false, List, [], codes}
use Rattle.js_text.specs.declared.value.RowValue.{RowValue}
use Rattle.js_text.specs.declared.value.RowValue.TheVariants.{Nothing, Slice, Units, Bad}
use Rattle.js_totsenak.specs.Json.{json_string, json_text}
use Rattle.js_totsenak.specs.Stretches.{characters_between}

-- the token is of a kind that has a value
abbrev pub has_value : RowValue → Bool
has_value Nothing = false
has_value (Slice span) = true
has_value (Units units) = true
has_value Bad = true

-- the value is a text
abbrev pub is_text : RowValue → Bool
is_text Nothing = false
is_text (Slice span) = true
is_text (Units units) = true
is_text Bad = false

-- A value as JSON: a text as a string of its UTF-16 units, and `null` for a part of a template with an escape that
-- stands for nothing. A token of a kind that has no value has none in JSON.
abbrev pub value_json : List ℕ → RowValue → List ℕ
value_json source Nothing = []
value_json source (Slice span) = json_text (characters_between source span.start span.end)
value_json source (Units units) = json_string units
value_json source Bad = codes "null"
