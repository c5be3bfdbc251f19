-- The decoded values that a lexer keeps, and the texts of tokens.
use Rattle.std.specs.Prelude.{◌≡◌, ℕ, ◌≤◌, Bool, true, false, List, [], Option, Some, None, slice_range}
use Rattle.std.specs.Prelude.{if◌then◌else◌}
use Rattle.std.specs.Str.{IsCharBoundary, chars}
use Rattle.js_text.specs.Characters.{from_place}
use Rattle.js_text.specs.JsStr.{units_of}
use Rattle.js_text.specs.JsText.{js_text_units, is_decoded}
use Rattle.js_text.specs.declared.js_text.JsText.{JsText}
use Rattle.js_text.specs.declared.js_text.TemplateValue.{TemplateValue}
use Rattle.js_text.specs.declared.js_text.TemplateValue.TheVariants.{Text, Bad as BadPart}
use Rattle.js_grammar.specs.TokenText.{text_start, text_end}
use Rattle.js_grammar.specs.Values.{decoded_units, template_units}
use Rattle.js_kind.specs.Kinds.{is_template_kind}
use Rattle.js_kind.specs.TokenParts.{TokenParts}
use Rattle.js_kind.specs.declared.kind.Kind.{Kind}
use Rattle.js_source.specs.Source.{At, rest}
pub use Rattle.js_source.specs.Offsets.{Placed, value_of, Holds}
use Rattle.js_spell.specs.declared.spelt.SpeltValue.{SpeltValue}
use Rattle.js_spell.specs.declared.spelt.SpeltValue.TheVariants.{Plain, Bad, Decoded}

-- Decoded values: of names and strings, in UTF-16 units, and of parts of templates, where a bad escape leaves no units.
pub record Values : Type 0 where
  pub strings : Placed (List ℕ)
  pub templates : Placed (Option (List ℕ))

abbrev pub no_values : Values
no_values = record { strings = []; templates = [] }

-- the value of a name or a string is kept
pub record HoldsString (start : ℕ) (units : List ℕ) (old new : Values) : Type 0 where
  pub strings : Holds start units old.strings new.strings
  pub templates : new.templates ≡ old.templates

-- the value of a part of a template is kept
pub record HoldsTemplate (start : ℕ) (units : Option (List ℕ)) (old new : Values) : Type 0 where
  pub templates : Holds start units old.templates new.templates
  pub strings : new.strings ≡ old.strings

-- the value that was spelt is kept of the name or the string that starts there, where it was decoded
abbrev pub KeepsSpelt : ℕ → SpeltValue → Values → Values → Type 0
KeepsSpelt start Plain old new = new ≡ old
KeepsSpelt start Bad old new = new ≡ old
KeepsSpelt start (Decoded units) old new = HoldsString start units old new

-- the value that was spelt is kept of the part of a template that starts there, where it is no stretch of the source
abbrev pub KeepsPart : ℕ → SpeltValue → Values → Values → Type 0
KeepsPart start Plain old new = new ≡ old
KeepsPart start Bad old new = HoldsTemplate start None old new
KeepsPart start (Decoded units) old new = HoldsTemplate start (Some units) old new

-- each value is what the function tells of the text at the start of its token
abbrev pub AreOf : (A : Type 0) → (List ℕ → A) → List ℕ → Placed A → Type 0
AreOf A told text values =
    (start : ℕ) (value : A) → value_of values start ≡ Some value → value ≡ told (from_place text start)

-- each value is what the name, the string or the part of a template at the start of its token stands for
pub record AreValues (text : List ℕ) (values : Values) : Type 0 where
  pub strings : AreOf (List ℕ) decoded_units text values.strings
  pub templates : AreOf (Option (List ℕ)) template_units text values.templates

-- no value is lost
abbrev pub KeepsPlaced : (A : Type 0) → Placed A → Placed A → Type 0
KeepsPlaced A old new = (start : ℕ) (value : A) → value_of old start ≡ Some value → value_of new start ≡ Some value

pub record Keeps (old new : Values) : Type 0 where
  pub strings : KeepsPlaced (List ℕ) old.strings new.strings
  pub templates : KeepsPlaced (Option (List ℕ)) old.templates new.templates

-- what a reading does to values of tokens of the text: it loses none, and those that it adds are such
pub record KeepsValues (text : List ℕ) (old new : Values) : Type 0 where
  pub kept : AreValues text old → Keeps old new
  pub are_values : AreValues text old → AreValues text new

-- the value of a token that begins the text and starts there is kept: as that of a part of a template, or not
abbrev pub IsKeptAs : Bool → Values → ℕ → List ℕ → Type 0
IsKeptAs true values start here = value_of values.templates start ≡ Some (template_units here)
IsKeptAs false values start here = value_of values.strings start ≡ Some (decoded_units here)

-- the value of the token of this kind that starts here is there, if it has an escape
abbrev pub HasValueHere : At → Values → Kind → Bool → Type 0
HasValueHere here values kind escaped =
    escaped ≡ true → IsKeptAs (is_template_kind kind) values here.place (rest here)

-- the value of the token is there, if it has an escape
abbrev pub HasValue : List ℕ → Values → TokenParts → Type 0
HasValue text values token =
    token.escaped ≡ true → IsKeptAs (is_template_kind token.kind) values token.start (from_place text token.start)

-- a stretch of the text from a place to another
pub record IsStretch (text : List ℕ) (start end : ℕ) : Type 0 where
  pub start_place : IsCharBoundary text start
  pub end_place : IsCharBoundary text end
  pub ordered : start ≤ end

-- The answer is the stretch of the text; none, where there is no such stretch.
abbrev pub GivesStretch : List ℕ → ℕ → ℕ → Option JsText → Type 0
GivesStretch text start end None = IsStretch text start end → ⊥
GivesStretch text start end (Some given) =
    IsStretch text start end × (js_text_units given ≡ units_of (chars (slice_range text start end)))
    × (is_decoded given ≡ false)

-- The answer is the value that was decoded; none, where there is no value.
abbrev pub GivesDecoded : Option (List ℕ) → Option JsText → Type 0
GivesDecoded value None = value ≡ None
GivesDecoded value (Some given) = (value ≡ Some (js_text_units given)) × (is_decoded given ≡ true)

-- where the stretch of a token begins: behind the quote of a string, behind the `#` of a private name, and else at the
-- token's start
abbrev pub stretch_start : Kind → ℕ → ℕ
stretch_start kind start = if is_template_kind kind then start else text_start kind start

-- and where it ends: before the quote of a string, and else at the token's end
abbrev pub stretch_end : Kind → ℕ → ℕ
stretch_end kind end = if is_template_kind kind then end else text_end kind end

-- The answer is the text of the token: its decoded value where it has an escape, and none where no value is there; else
-- its stretch of the source, without the quotes of a string and the `#` of a private name, and none where there is no
-- such stretch.
pub record GivesText (text : List ℕ) (values : Values) (token : TokenParts) (answer : Option JsText) : Type 0 where
  pub escaped : token.escaped ≡ true → GivesDecoded (value_of values.strings token.start) answer
  pub unescaped : token.escaped ≡ false
      → GivesStretch text (stretch_start token.kind token.start) (stretch_end token.kind token.end) answer

-- the text that a template's value has, if it is good
abbrev pub template_text : Option TemplateValue → Option JsText
template_text None = None
template_text (Some (Text given)) = Some given
template_text (Some BadPart) = None

-- The answer is the value of the part of a template that was decoded; none, where there is no value.
abbrev pub GivesPart : Option (Option (List ℕ)) → Option TemplateValue → Type 0
GivesPart value None = value ≡ None
GivesPart value (Some (Text given)) = (value ≡ Some (Some (js_text_units given))) × (is_decoded given ≡ true)
GivesPart value (Some BadPart) = value ≡ Some None

-- The answer is the value of the part of a template; none for a token of another kind.
pub record GivesTemplate (text : List ℕ) (values : Values) (token : TokenParts) (answer : Option TemplateValue)
    : Type 0 where
  pub other : is_template_kind token.kind ≡ false → answer ≡ None
  pub escaped : is_template_kind token.kind ≡ true → token.escaped ≡ true
      → GivesPart (value_of values.templates token.start) answer
  pub unescaped : is_template_kind token.kind ≡ true → token.escaped ≡ false
      → GivesStretch text (text_start token.kind token.start) (text_end token.kind token.end) (template_text answer)
      × (answer ≡ Some BadPart → ⊥)
