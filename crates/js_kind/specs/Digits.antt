-- The digits of numbers.
use Rattle.std.specs.Prelude.{ℕ, Bool, List, [], ◌∷◌}
use Rattle.std.specs.Char.{is_digit}
use Rattle.js_kind.specs.declared.kind.Kind.{Kind}
use Rattle.js_kind.specs.declared.kind.Kind.TheVariants as variant
use Rattle.js_kind.specs.Kinds.{is_one_of}

-- the kinds of integers, without those that `n` ends
abbrev pub integer_kinds : List Kind
integer_kinds = variant.Decimal ∷ variant.Binary ∷ variant.Octal ∷ variant.Hex ∷ []

-- the kind is one of these
abbrev pub is_integer_kind : Kind → Bool
is_integer_kind = is_one_of integer_kinds

-- the digits of a radix
unfoldable pub is_digit_of : ℕ → ℕ → Bool
is_digit_of radix c = is_digit c radix

-- the radix of the digits of a number, by its kind
abbrev pub radix_of : Kind → ℕ
radix_of variant.Binary = 2
radix_of variant.BinaryBigInt = 2
radix_of variant.Octal = 8
radix_of variant.OctalBigInt = 8
radix_of variant.Hex = 16
radix_of variant.HexBigInt = 16
radix_of _ = 10
