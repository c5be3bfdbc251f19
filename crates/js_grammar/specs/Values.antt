-- The values of tokens, as their kinds, their spans and the text tell them.
use Rattle.std.specs.Prelude.{◌≡◌, ℕ, ◌≤◌, true, false, List, [], drop, ◌==◌, Option, Some, None, unwrap_or}
use Rattle.std.specs.Prelude.{if◌then◌else◌}
use Rattle.std.specs.Str.{IsCharBoundary}
use Rattle.js_text.specs.Ascii.{number_sign}
use Rattle.js_text.specs.Characters.{begins, from_place}
use Rattle.js_text.specs.JsStr.{units_of}
use Rattle.js_text.specs.declared.value.RowValue.{RowValue}
use Rattle.js_text.specs.declared.value.RowValue.TheVariants.{Units, Bad}
use Rattle.js_grammar.specs.Name.{decoded}
use Rattle.js_grammar.specs.Quoted.{quoted_reading, units_in}
use Rattle.js_grammar.specs.TokenText.{unescaped_value, text_start, text_end}
use Rattle.js_grammar.specs.StringItems.{is_quote}
use Rattle.js_kind.specs.Kinds.{is_template_kind}
use Rattle.js_kind.specs.TokenParts.{TokenParts}
use Rattle.js_kind.specs.declared.kind.Kind.{Kind}

-- the characters that the name which begins the text stands for, as UTF-16 units
abbrev pub name_units : List ℕ → List ℕ
name_units here = units_of (if begins (λ c. c == number_sign) here then decoded (drop 1 here) else decoded here)

-- the units that the name or the string with an escape which begins the text stands for
abbrev pub decoded_units : List ℕ → List ℕ
decoded_units here =
    if begins is_quote here then unwrap_or (units_in (quoted_reading here).value) [] else name_units here

-- the units that the part of a template with an escape which begins the text stands for; none, where it has a bad one
abbrev pub template_units : List ℕ → Option (List ℕ)
template_units here = units_in (quoted_reading here).value

-- the value of a part of a template with these units
abbrev pub template_row_value : Option (List ℕ) → RowValue
template_row_value None = Bad
template_row_value (Some us) = Units us

-- the value of a token of this kind with an escape, which begins the text
abbrev pub decoded_value : Kind → List ℕ → RowValue
decoded_value kind here =
    if is_template_kind kind then template_row_value (template_units here) else Units (decoded_units here)

-- This is the value of the token: its text in the source exactly where it has no escape.
pub record IsValueOf (text : List ℕ) (token : TokenParts) (value : RowValue) : Type 0 where
  pub unescaped : token.escaped ≡ false → value ≡ unescaped_value token.kind token.start token.end
  pub decoded : token.escaped ≡ true → value ≡ decoded_value token.kind (from_place text token.start)

-- The text of the token, without its marks, lies on places of the source, in order.
pub record HasText (text : List ℕ) (token : TokenParts) : Type 0 where
  pub start : IsCharBoundary text (text_start token.kind token.start)
  pub end : IsCharBoundary text (text_end token.kind token.end)
  pub ordered : text_start token.kind token.start ≤ text_end token.kind token.end
