-- Integers as they are written, and their values (ECMA-262 12.9.3 and B.1.1).
use Rattle.std.specs.Prelude.{◌≡◌, ℕ, Bool, true, List, [], ◌∷◌, length, drop, ◌==◌, ◌&&◌, ◌||◌, not, codes, Option}
use Rattle.std.specs.Prelude.{is_some, unwrap_or}
use Rattle.std.specs.List.{filter, find, list_any, list_all}
use Rattle.std.specs.Str.Parse.{digits_value}
use Rattle.js_grammar.specs.Gap.{is_prefix}
use Rattle.js_text.specs.Ascii.{low_line}
use Rattle.js_kind.specs.Digits.{is_digit_of, radix_of}
use Rattle.js_kind.specs.declared.kind.Kind.{Kind}
use Rattle.js_kind.specs.declared.kind.Kind.TheVariants.{Decimal, Binary, Octal, Hex}

-- the prefix of a legacy octal integer
abbrev pub legacy_prefix : List ℕ
legacy_prefix = codes "0"

-- what the integers of a kind may begin with; a longer prefix stands before a shorter one
abbrev pub prefixes : Kind → List (List ℕ)
prefixes Decimal = [] ∷ []
prefixes Binary = codes "0b" ∷ codes "0B" ∷ []
prefixes Octal = codes "0o" ∷ codes "0O" ∷ legacy_prefix ∷ []
prefixes Hex = codes "0x" ∷ codes "0X" ∷ []
prefixes _ = []

-- the prefix that the text has, if it has one of the kind
abbrev pub prefix_of : Kind → List ℕ → Option (List ℕ)
prefix_of kind text = find (λ prefix. is_prefix prefix text) (prefixes kind)

-- the text behind its prefix
abbrev pub behind_prefix : Kind → List ℕ → List ℕ
behind_prefix kind text = drop (length (unwrap_or (prefix_of kind text) [])) text

abbrev pub is_underscore : ℕ → Bool
is_underscore c = c == low_line

-- what may stand behind a prefix: digits, and `_` where there are separators
abbrev pub is_digit_or_separator : ℕ → Bool → ℕ → Bool
is_digit_or_separator radix has_separators c = is_digit_of radix c || (has_separators && is_underscore c)

-- The text is an integer of the kind: a prefix of the kind and digits, at least one. Where there are separators, `_`
-- may
-- stand anywhere behind the prefix.
pub record IsInteger (text : List ℕ) (kind : Kind) (has_separators : Bool) : Type 0 where
  pub prefix : is_some (prefix_of kind text) ≡ true
  pub digits : list_all (is_digit_or_separator (radix_of kind) has_separators) (behind_prefix kind text) ≡ true
  pub some_digit : list_any (is_digit_of (radix_of kind)) (behind_prefix kind text) ≡ true

abbrev pub without_separators : List ℕ → List ℕ
without_separators text = filter (λ c. not (is_underscore c)) text

-- the digits of an integer, without prefix and separators
abbrev pub integer_digits : Kind → List ℕ → List ℕ
integer_digits kind text = without_separators (behind_prefix kind text)

-- the value of an integer
abbrev pub integer_value : Kind → List ℕ → ℕ
integer_value kind text = digits_value (radix_of kind) (integer_digits kind text)
