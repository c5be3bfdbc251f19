-- What a reader of one spelling does to the source, and what it tells.
use Rattle.std.specs.Prelude.{◌≡◌, ℕ, false, List, ◌++◌}
use Rattle.js_text.specs.declared.diagnostic.Diagnostic.{Diagnostic}
use Rattle.js_text.specs.declared.value.RowValue.{RowValue}
use Rattle.js_text.specs.declared.value.RowValue.TheVariants.{Nothing, Slice, Units, Bad as BadValue}
use Rattle.js_kind.specs.TokenParts.{TokenParts}
use Rattle.js_kind.specs.declared.kind.Kind.{Kind}
use Rattle.js_grammar.specs.Reading.{Reading, reported_at}
use Rattle.js_source.specs.Source.{At, rest}
use Rattle.js_spell.specs.declared.spelt.Spelt.{Spelt}
use Rattle.js_spell.specs.declared.spelt.SpeltValue.{SpeltValue}
use Rattle.js_spell.specs.declared.spelt.SpeltValue.TheVariants.{Plain, Decoded, Bad}

-- This was read of a token of the kind that begins at the start, up to the new place: what is reported of it was added.
pub record ReadsAs (reading : Reading) (start : ℕ) (old new : At) (before after : List Diagnostic) (kind : Kind)
    : Type 0 where
  pub text : new.text ≡ old.text
  pub kind_is : reading.kind ≡ kind
  pub left : reading.rest ≡ rest new
  pub reports : after ≡ before ++ reported_at start reading

-- where the value of a token is: in the source, as it stands there, or elsewhere
abbrev pub spelt_value : RowValue → SpeltValue
spelt_value Nothing = Plain
spelt_value (Slice span) = Plain
spelt_value (Units units) = Decoded units
spelt_value BadValue = Bad

-- The same, and the flags of the token were set, and its value told.
pub record Spells (reading : Reading) (start : ℕ) (old new : At) (before after : List Diagnostic) (was now : TokenParts)
    (spelt : Spelt) : Type 0 where
  pub read : ReadsAs reading start old new before after spelt.kind
  pub value : spelt.value ≡ spelt_value reading.value
  pub flags : now ≡ record was { escaped = reading.escaped; has_separator = reading.has_separator }

-- The reading is good, of a token of this kind without an escape and without a separator: nothing is reported, and the
-- flags of a token are not set.
abbrev pub SpellsSimply : Reading → ℕ → At → At → Kind → Type 0
SpellsSimply reading start old new kind =
    (errors : List Diagnostic) (token : TokenParts) → Spells reading start old new errors errors token
    (record token { escaped = false; has_separator = false }) (record { kind = kind; value = Plain })
