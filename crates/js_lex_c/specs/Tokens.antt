-- Tokens as C sees them, and the pool of their decoded values.
use Rattle.std.specs.Prelude.{ℕ, ◌+◌, Bool, false, List, [], ◌∷◌, length, Option, Some, None, if◌then◌else◌}
use Rattle.std.specs.List.{flat_map}
use Rattle.js_text.specs.RegExpFlags.{flag_bits}
use Rattle.js_text.specs.declared.reg_exp_flags.RegexInfo.{RegexInfo}
use Rattle.js_text.specs.declared.value.RowValue.{RowValue}
use Rattle.js_text.specs.declared.value.RowValue.TheVariants.{Nothing, Slice, Units, Bad}
use Rattle.js_kind.specs.Kinds.{number}
use Rattle.js_kind.specs.TokenParts.{TokenParts}
use Rattle.js_lists.specs.Taken.{Taken}
use Rattle.js_lex_c.specs.Records.{span_record}
use Rattle.js_lex_c.specs.declared.record.JsSpan.{JsSpan}
use Rattle.js_lex_c.specs.declared.record.JsToken.{JsToken}

-- a bit of this value, if it is set
abbrev pub bit : Bool → ℕ → ℕ
bit set value = if set then value else 0

abbrev pub has_flags_error : Option RegexInfo → Bool
has_flags_error None = false
has_flags_error (Some info) = info.flags_error

abbrev pub pattern_end_of : Option RegexInfo → ℕ
pattern_end_of None = 0
pattern_end_of (Some info) = info.pattern_end

abbrev pub regex_flags_of : Option RegexInfo → ℕ
regex_flags_of None = 0
regex_flags_of (Some info) = flag_bits info.flags

abbrev pub token_flags : TokenParts → Bool → ℕ
token_flags token flags_error =
    bit token.is_on_new_line 1 + bit token.escaped 2 + bit token.has_separator 4 + bit flags_error 8

-- no value, a stretch of the source, units of the pool, or a bad value
abbrev pub value_form : RowValue → ℕ
value_form Nothing = 0
value_form (Slice span) = 1
value_form (Units units) = 2
value_form Bad = 3

-- the units of a value that was decoded, which stand in the pool
abbrev pub value_units : RowValue → List ℕ
value_units Nothing = []
value_units (Slice span) = []
value_units (Units units) = units
value_units Bad = []

-- where a value is, with so many units in the pool before it
abbrev pub value_span : ℕ → RowValue → JsSpan
value_span before Nothing = record { start = 0; end = 0 }
value_span before (Slice span) = span_record span
value_span before (Units units) = record { start = before; end = before + length units }
value_span before Bad = record { start = 0; end = 0 }

-- the token of a row, with so many units in the pool before its value
abbrev pub token_record : ℕ → Taken → JsToken
token_record before taken = record {
  span = record { start = taken.token.start; end = taken.token.end };
  value = value_span before taken.value;
  pattern_end = pattern_end_of taken.regex;
  kind = number taken.token.kind;
  flags = token_flags taken.token (has_flags_error taken.regex);
  regex_flags = regex_flags_of taken.regex;
  value_form = value_form taken.value;
}

-- the tokens of rows, each value behind those before it in the pool
abbrev pub token_records : ℕ → List Taken → List JsToken
token_records before [] = []
token_records before (taken ∷ more) =
    token_record before taken ∷ token_records (before + length (value_units taken.value)) more

-- the pool of rows: their decoded values, one behind the other
abbrev pub pool : List Taken → List ℕ
pool all = flat_map (λ taken. value_units taken.value) all
