-- The steps of reading escapes.
use Rattle.std.specs.Prelude.{◌≡◌, ℕ, ◌<◌, ◌≤◌, Bool, true, false, not, List, [], ◌++◌, length, Option, Some, None}
use Rattle.std.specs.Prelude.{slice_index}
use Rattle.std.specs.Char.{digit_value}
use Rattle.std.specs.Char.Escape.{encode_utf16}
use Rattle.std.specs.Str.Parse.{AllDigits, digits_value}
use Rattle.js_text.specs.Characters.{begins}
use Rattle.js_kind.specs.Digits.{is_digit_of}
use Rattle.js_text.specs.declared.diagnostic.Diagnostic.{Diagnostic}
use Rattle.js_grammar.specs.StringItems.{Fault, StringItem, escape, is_bad_escape, fault_reports}
use Rattle.js_grammar.specs.StringItems.Fault.{no_fault, bad_escape}
use Rattle.js_grammar.specs.UnicodeEscape.{UnicodeEscape, digits_of_code_point, last_code_point}
use Rattle.js_spell.specs.declared.escape.Escaped.{Escaped}
use Rattle.js_spell.specs.declared.escape.Escaped.TheVariants.{Nothing, CodePoint, Bad}
use Rattle.js_source.specs.Source.{At, rest, Reads}

-- A table of the values of digits: the entry of each byte is its value as one.
pub record TellsValues (table : List ℕ) : Type 0 where
  pub tells : (b : ℕ) → b < 256 → slice_index table b ≡ digit_value b

-- a digit of the radix was taken, of this value, or none is next
abbrev pub TakesDigit : ℕ → At → At → Option ℕ → Type 0
TakesDigit radix old new None = (begins (is_digit_of radix) (rest old) ≡ false) × (new ≡ old)
TakesDigit radix old new (Some value) =
    (c : ℕ) × (is_digit_of radix c ≡ true) × (digit_value c ≡ value) × Reads old new c

-- So many digits of the radix were taken, and behind those before them they write this number.
pub record TakesDigits (radix : ℕ) (before : List ℕ) (old new : At) (count value : ℕ) : Type 0 where
  pub text : new.text ≡ old.text
  pub digits : List ℕ
  pub all : AllDigits radix (before ++ digits)
  pub here : rest old ≡ digits ++ rest new
  pub count_is : length digits ≡ count
  pub value_is : digits_value radix (before ++ digits) ≡ value

-- Digits of a code point were taken, at least one, and they write this number.
pub record TakesCodePoint (old new : At) (value : ℕ) : Type 0 where
  pub text : new.text ≡ old.text
  pub digits : List ℕ
  pub some : 0 < length digits
  pub here : rest old ≡ digits ++ rest new
  pub value_is : digits_value 16 digits ≡ value
  pub go_on : digits_of_code_point 0 (rest old) ≡ digits ++ digits_of_code_point value (rest new)

-- The digits of a unicode escape, or those behind a `\x`, were read: what they stand for, and what is left.
pub record ReadsUnicodeEscape (escape : UnicodeEscape) (old new : At) (code_point : Option ℕ) : Type 0 where
  pub text : new.text ≡ old.text
  pub left : escape.rest ≡ rest new
  pub code_point_is : escape.code_point ≡ code_point

-- the units of what an escape stands for
abbrev pub escaped_units : Escaped → List ℕ
escaped_units Nothing = []
escaped_units (CodePoint c) = encode_utf16 c
escaped_units Bad = []

abbrev pub escaped_fault : Escaped → Fault
escaped_fault Nothing = no_fault
escaped_fault (CodePoint c) = no_fault
escaped_fault Bad = bad_escape

-- it is no greater than the last code point, if it is a code point
abbrev pub IsInRange : Escaped → Type 0
IsInRange Nothing = Unit {0}
IsInRange (CodePoint c) = c ≤ last_code_point
IsInRange Bad = Unit {0}

-- An item was read to its end, and this is what it stands for.
pub record ReadsEscapeOf (item : StringItem) (old new : At) (found : Escaped) : Type 0 where
  pub text : new.text ≡ old.text
  pub left : item.rest ≡ rest new
  pub units : item.units ≡ escaped_units found
  pub fault : item.fault ≡ escaped_fault found
  pub small : IsInRange found

-- The escape behind a `\` was read: its units were added, and where the source ends behind the `\`, that was reported.
pub record ReadsEscape (in_template : Bool) (start : ℕ) (old new : At) (units_before units_after : List ℕ)
    (before after : List Diagnostic) (is_good : Bool) : Type 0 where
  pub text : new.text ≡ old.text
  pub left : (escape in_template (rest old)).rest ≡ rest new
  pub units : units_after ≡ units_before ++ (escape in_template (rest old)).units
  pub good : is_bad_escape (escape in_template (rest old)).fault ≡ not is_good
  pub reports : after ≡ before ++ fault_reports true start old.place new.place (escape in_template (rest old)).fault
