-- What the laws of readings say of names, strings and parts of templates.
use Rattle.std.specs.Prelude.{◌≡◌, ℕ, true, false, List, ◌++◌, Option, Some, None, slice_range}
use Rattle.std.specs.List.{flat_map}
use Rattle.std.specs.Str.{chars, encode_utf8_all}
use Rattle.js_text.specs.Characters.{from_place}
use Rattle.js_text.specs.JsStr.{units_of}
use Rattle.js_text.specs.JsText.{js_text_units, is_decoded}
use Rattle.js_text.specs.declared.js_text.JsText.{JsText}
use Rattle.js_text.specs.declared.js_text.TemplateValue.{TemplateValue}
use Rattle.js_text.specs.declared.js_text.TemplateValue.TheVariants.{Text, Bad as BadPart}
use Rattle.js_text.specs.declared.value.RowValue.{RowValue}
use Rattle.js_text.specs.declared.value.RowValue.TheVariants.{Nothing, Slice, Units, Bad}
use Rattle.js_grammar.specs.Name.{IsName, decoded}
use Rattle.js_grammar.specs.Outcome.{Outcome}
use Rattle.js_grammar.specs.TokenText.{is_valued, text_slice}
use Rattle.js_grammar.specs.StringItems.{StringItem, IsString, string_text}
use Rattle.js_kind.specs.Keywords.{name_kind}
use Rattle.js_kind.specs.Kinds.{is_template_kind}
use Rattle.js_kind.specs.TokenParts.{TokenParts}
use Rattle.js_kind.specs.declared.kind.Kind.TheVariants.{Str}
use Rattle.js_reader.specs.Decoded.{GivesText, GivesTemplate, Keeps}
use Rattle.js_lexer.specs.Lexer.{LexerState}

-- The token is a name of the text, and its kind is that of the word that it stands for.
pub record IsNameOfWord (text : List ℕ) (token : TokenParts) : Type 0 where
  pub characters : List ℕ
  pub here : from_place text token.start ≡ characters ++ from_place text token.end
  pub name : IsName characters
  pub kind : token.kind ≡ name_kind (encode_utf8_all (decoded characters))

-- the units of items, one after the other
abbrev pub units_of_items : List StringItem → List ℕ
units_of_items items = flat_map (λ item. item.units) items

-- The token is a string of the text, and its value is the units of its items: as such where there is an escape, and
-- else as the stretch between the quotes, which has just these units.
pub record IsStringOfItems (text : List ℕ) (outcome : Outcome) : Type 0 where
  pub characters : List ℕ
  pub here : from_place text outcome.token.start ≡ characters ++ from_place text outcome.token.end
  pub string : IsString characters (from_place text outcome.token.end)
  pub decoded_value : outcome.token.escaped ≡ true → outcome.value ≡ Units (units_of_items string.items)
  pub unescaped_value : outcome.token.escaped ≡ false
      → (outcome.value ≡ text_slice Str outcome.token.start outcome.token.end)
      × (units_of (string_text string.items) ≡ units_of_items string.items)

-- The answer is the text that the value of a token is: units that were decoded, or the stretch of the text.
abbrev pub IsTextOf : List ℕ → RowValue → Option JsText → Type 0
IsTextOf text Nothing answer = ⊥
IsTextOf text Bad answer = ⊥
IsTextOf text (Units units) None = ⊥
IsTextOf text (Units units) (Some given) = (js_text_units given ≡ units) × (is_decoded given ≡ true)
IsTextOf text (Slice span) None = ⊥
IsTextOf text (Slice span) (Some given) =
    (js_text_units given ≡ units_of (chars (slice_range text span.start span.end))) × (is_decoded given ≡ false)

-- The answer is what the value of a part of a template is: bad, or its text.
abbrev pub IsPartOf : List ℕ → RowValue → Option TemplateValue → Type 0
IsPartOf text value None = ⊥
IsPartOf text value (Some BadPart) = value ≡ Bad
IsPartOf text value (Some (Text given)) = IsTextOf text value (Some given)

-- The lexer has the text of an earlier one, and each value that was decoded there.
pub record KeepsTexts (earlier now : LexerState) : Type 0 where
  pub text : now.text ≡ earlier.text
  pub kept : Keeps earlier.decoded now.decoded

-- What the lexer answers where the text of the token is asked for is the value: of a name, private or not, and of a
-- string its text, and of a part of a template what that is.
pub record GivesValue (l : LexerState) (token : TokenParts) (value : RowValue) : Type 0 where
  pub text : (answer : Option JsText) → is_valued token.kind ≡ true → is_template_kind token.kind ≡ false
      → GivesText l.text l.decoded token answer → IsTextOf l.text value answer
  pub part : (answer : Option TemplateValue) → is_template_kind token.kind ≡ true
      → GivesTemplate l.text l.decoded token answer → IsPartOf l.text value answer
