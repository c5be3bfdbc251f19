-- The digits of numbers.
use Rattle.std.proofs.Common.{◌≡◌, ◌≢◌, ℕ, true, false, refl, arith}
use Rattle.std.proofs.lemmas.Bool.{both_ways}
use Rattle.std.proofs.lemmas.Bool.Decides.{nat_tests}
use Rattle.std.specs.Char.{is_ascii_digit}
use Rattle.js_kind.specs.declared.kind.Kind.{Kind}
use Rattle.js_kind.specs.declared.kind.Kind.TheVariants as variant
use Rattle.js_kind.specs.Digits.{is_integer_kind, is_digit_of, radix_of}

-- The radix of the one kind of integers that is left.
pub radix_left : (kind : Kind) → is_integer_kind kind ≡ true → kind ≢ variant.Binary → kind ≢ variant.Octal
    → kind ≢ variant.Hex → radix_of kind ≡ 10
radix_left variant.Binary is binary octal hex = absurd (binary refl)
radix_left variant.Octal is binary octal hex = absurd (octal refl)
radix_left variant.Hex is binary octal hex = absurd (hex refl)
radix_left variant.BinaryBigInt is binary octal hex = absurd (both_ways false refl is)
radix_left variant.OctalBigInt is binary octal hex = absurd (both_ways false refl is)
radix_left variant.HexBigInt is binary octal hex = absurd (both_ways false refl is)
radix_left _ is binary octal hex = refl

pub digits_of_ten : (c : ℕ) → is_ascii_digit c ≡ is_digit_of 10 c
unfolding is_digit_of
digits_of_ten c = grind (arith, nat_tests)
