-- What readers of angles and of parts of JSX give, and their steps.
use Rattle.std.specs.Prelude.{◌≡◌, ℕ, Bool, true, false, List, [], ◌∷◌, ◌++◌, ◌==◌, ◌||◌, Option, Some, None}
use Rattle.std.specs.Prelude.{if◌then◌else◌, drop}
use Rattle.std.specs.Option.{option_map_or}
use Rattle.js_text.specs.Ascii.{apostrophe, equals_sign, greater_than_sign, quotation_mark}
use Rattle.js_text.specs.Characters.{begins, from_first}
use Rattle.js_text.specs.declared.diagnostic.Diagnostic.{Diagnostic}
use Rattle.js_text.specs.declared.span.Span.{Span}
use Rattle.js_kind.specs.declared.kind.Kind.{Kind}
use Rattle.js_grammar.specs.Angle.{angle_reading, right_angles}
use Rattle.js_grammar.specs.Jsx.{angles_among, ends_jsx_text, jsx_name_reading, jsx_name_up_to, jsx_string_reading}
use Rattle.js_grammar.specs.Jsx.{jsx_text_reading}
use Rattle.js_grammar.specs.Reading.{Reading, read_up_to, reported_at}
use Rattle.js_spell.specs.Spells.{ReadsAs}
use Rattle.js_source.specs.Source.{At, rest, BeginsWith, Reads}
use Rattle.js_spell.specs.declared.jsx.Text.{Text}
use Rattle.js_spell.specs.declared.jsx.Text.TheVariants.{Child, DoubleQuoted, SingleQuoted}

-- a `=` was taken, if it is next, and this decides between the kinds
abbrev pub equals_kind : Bool → Kind → Kind → Kind
equals_kind is_there alone assigned = if is_there then assigned else alone

pub record TakesEquals (old new : At) (alone assigned kind : Kind) : Type 0 where
  pub text : new.text ≡ old.text
  pub kind_is : kind ≡ equals_kind (begins (λ c. c == equals_sign) (rest old)) alone assigned
  pub left : rest new ≡ (if begins (λ c. c == equals_sign) (rest old) then drop 1 (rest old) else rest old)

-- The longest punctuator was read that begins with a `>`, behind this.
pub record SpellsAngle (old new : At) (kind : Kind) : Type 0 where
  pub text : new.text ≡ old.text
  pub read : angle_reading right_angles (greater_than_sign ∷ rest old)
      ≡ Some (read_up_to kind (greater_than_sign ∷ rest old) (rest new))

-- A name of JSX was read on; or it does not go on here.
abbrev pub SpellsJsxName : At → At → Bool → Type 0
SpellsJsxName old new true =
    (new.text ≡ old.text)
    × ((part : List ℕ) → jsx_name_reading part (rest old) ≡ Some (jsx_name_up_to part (rest old) (rest new)))
SpellsJsxName old new false = (new ≡ old) × ((part : List ℕ) → jsx_name_reading part (rest old) ≡ None)

-- the characters that a run of text ends before: those that end the text, and in a child a `>`, which is warned of
abbrev pub ends_of : Text → ℕ → Bool
ends_of Child c = ends_jsx_text c || (c == greater_than_sign)
ends_of DoubleQuoted c = c == quotation_mark
ends_of SingleQuoted c = c == apostrophe

-- a character that ends the run is next
pub record StopsAt (within : Text) (b : ℕ) (text : List ℕ) : Type 0 where
  pub next : BeginsWith b text
  pub ends : ends_of within b ≡ true

-- the character that ends the text of a child is next, or nothing is left
abbrev pub IsAtChildEnd : Option ℕ → List ℕ → Type 0
IsAtChildEnd None text = text ≡ []
IsAtChildEnd (Some b) text = BeginsWith b text × (ends_jsx_text b ≡ true)

-- what the text of a child that begins at the place is warned of
abbrev pub text_warnings : ℕ → List ℕ → List Span
text_warnings place text = angles_among place (jsx_text_reading text).taken

-- The text of a child was passed, with a warning of each `>` in it.
pub record PassesChild (old new : At) (before after : List Span) (end : Option ℕ) : Type 0 where
  pub text : new.text ≡ old.text
  pub left : rest new ≡ from_first ends_jsx_text (rest old)
  pub end_is : IsAtChildEnd end (rest new)
  pub warnings : after ≡ before ++ text_warnings old.place (rest old)

-- A beginning of all that the reading warns of was warned of.
pub record WarnsInPart (all before after : List Span) : Type 0 where
  pub more : List Span
  pub warnings : after ≡ before ++ more
  pub rest_of : List Span
  pub beginning : more ++ rest_of ≡ all

-- the quote of a string was taken
pub record TakesJsxQuote (old new : At) (within : Text) : Type 0 where
  pub quote : ℕ
  pub read : Reads old new quote
  pub ends : (c : ℕ) → ends_of within c ≡ (c == quote)

-- The string of an attribute was read.
pub record SpellsJsxString (old new : At) (before after : List Diagnostic) (kind : Kind) : Type 0 where
  pub found : Reading
  pub read : jsx_string_reading (rest old) ≡ Some found
  pub spells : ReadsAs found old.place old new before after kind

-- what is reported of the string of an attribute that the text begins with, at the start
abbrev pub jsx_string_reports : ℕ → List ℕ → List Diagnostic
jsx_string_reports start text = option_map_or (reported_at start) (jsx_string_reading text) []
