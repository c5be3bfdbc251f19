-- Which characters are a number (ECMA-262 12.9.3 and B.1.1), and the items that the text of a number is cut into. In an
-- item a digit may be missing, so that good numbers and those at fault are said of the same items.
use Rattle.std.specs.Prelude.{◌≡◌, ℕ, Bool, true, false, List, [], ◌∷◌, ◌++◌, drop, ◌==◌, ◌||◌, codes, Option, Some}
use Rattle.std.specs.Prelude.{None, ◌⊎◌, if◌then◌else◌}
use Rattle.std.specs.List.{list_all}
use Rattle.js_text.specs.Ascii.{full_stop, low_line}
use Rattle.js_text.specs.Characters.{begins, is_identifier_start}
use Rattle.js_kind.specs.Digits.{is_digit_of, radix_of}
use Rattle.js_kind.specs.declared.kind.Kind.{Kind}
use Rattle.js_kind.specs.declared.kind.Kind.TheVariants.{Decimal, Float, Binary, Octal, Hex, PositiveExponential}
use Rattle.js_kind.specs.declared.kind.Kind.TheVariants.{NegativeExponential, DecimalBigInt, BinaryBigInt, OctalBigInt}
use Rattle.js_kind.specs.declared.kind.Kind.TheVariants.{HexBigInt}

abbrev pub digit_zero : ℕ
digit_zero = 48

abbrev pub latin_small_letter_n : ℕ
latin_small_letter_n = 110

-- `e` and `E`
unfoldable pub is_exponent_indicator : ℕ → Bool
is_exponent_indicator c = (c == 101) || (c == 69)

-- An item of a number, as it stands in a text: its characters, whether a digit is missing behind them, and what is left
-- of the text there.
pub record Item : Type 0 where
  pub text : List ℕ
  pub lacks_digit : Bool
  pub rest : List ℕ

-- an item that is whole
abbrev pub whole : List ℕ → List ℕ → Item
whole xs rest = record { text = xs; lacks_digit = false; rest = rest }

-- an item behind which a digit is missing
abbrev pub broken : List ℕ → List ℕ → Item
broken xs rest = record { text = xs; lacks_digit = true; rest = rest }

-- an item with one more character in front
abbrev pub item-cons : ℕ → Item → Item
item-cons c item = record item { text = c ∷ item.text }

-- how a run goes on behind a digit: with further digits, each perhaps behind one `_`, which a digit has to follow
abbrev pub digits_on : ℕ → List ℕ → Item
digits_on radix [] = whole [] []
digits_on radix (c ∷ cs) =
    if is_digit_of radix c then item-cons c (digits_on radix cs)
    else if c == low_line then
    (if begins (is_digit_of radix) cs then item-cons c (digits_on radix cs) else broken (c ∷ []) cs)
    else whole [] (c ∷ cs)

-- A run: digits of a radix, at least one, with single `_` between digits.
unfoldable pub run : ℕ → List ℕ → Item
run radix text = if begins (is_digit_of radix) text then digits_on radix text else broken [] text

-- An integer: `0`, or a run that begins with another digit.
unfoldable pub integer : List ℕ → Item
integer text = if begins (λ c. c == digit_zero) text then whole (codes "0") (drop 1 text) else run 10 text

-- The characters xs are this item, whole, and no more.
abbrev pub Is : (List ℕ → Item) → List ℕ → Type 0
Is item xs = item xs ≡ whole xs []

-- The characters xs are such, or there are none.
abbrev pub IsOptional : (List ℕ → Type 0) → List ℕ → Type 0
IsOptional P xs = (xs ≡ []) ⊎ P xs

-- A radix that a prefix names, and the kinds of the numbers with the prefix.
pub record Base : Type 0 where
  pub radix : ℕ
  pub kind : Kind
  pub big_kind : Kind

-- the base that a letter behind `0` names
abbrev pub base_of : ℕ → Option Base
base_of c =
    if (c == 98) || (c == 66) then Some (record { radix = radix_of Binary; kind = Binary; big_kind = BinaryBigInt })
    else if (c == 111) || (c == 79) then Some (record { radix = radix_of Octal; kind = Octal; big_kind = OctalBigInt })
    else if (c == 120) || (c == 88) then Some (record { radix = radix_of Hex; kind = Hex; big_kind = HexBigInt })
    else None

-- the sign of an exponent
pub data Sign : Type 0 where
  no_sign : Sign
  plus : Sign
  minus : Sign

abbrev pub sign_text : Sign → List ℕ
sign_text no_sign = []
sign_text plus = codes "+"
sign_text minus = codes "-"

-- the kind of a number without a point whose exponent has the sign
abbrev pub sign_kind : Sign → Kind
sign_kind no_sign = PositiveExponential
sign_kind plus = PositiveExponential
sign_kind minus = NegativeExponential

-- An exponent, with the kind that it gives a number without a point.
pub data IsExponent (xs : List ℕ) (kind : Kind) : Type 0 where
  exponent : (mark : ℕ) (sign : Sign) (digits : List ℕ) → is_exponent_indicator mark ≡ true → Is (run 10) digits
      → xs ≡ mark ∷ (sign_text sign ++ digits) → kind ≡ sign_kind sign → IsExponent xs kind

-- an exponent behind a point, where its sign gives no kind
abbrev pub IsFloatExponent : List ℕ → Type 0
IsFloatExponent xs = (kind : Kind) × IsExponent xs kind

-- digits of a radix, and nothing else
abbrev pub are_digits : ℕ → List ℕ → Bool
are_digits radix xs = list_all (is_digit_of radix) xs

-- `0` and octal digits, at least one (B.1.1)
pub data IsLegacyOctal (xs : List ℕ) : Type 0 where
  legacy : (digits : List ℕ) → begins (is_digit_of 8) digits ≡ true → are_digits 8 digits ≡ true
      → xs ≡ digit_zero ∷ digits → IsLegacyOctal xs

-- `0` and digits, of which one is 8 or 9 (B.1.1)
pub data IsLegacyDecimal (xs : List ℕ) : Type 0 where
  legacy : (digits : List ℕ) → are_digits 10 digits ≡ true → are_digits 8 digits ≡ false
      → xs ≡ digit_zero ∷ digits → IsLegacyDecimal xs

-- the digits that a point or an exponent may follow
abbrev pub IsBeforePoint : List ℕ → Type 0
IsBeforePoint xs = Is integer xs ⊎ IsLegacyDecimal xs

-- The characters xs are a number of this kind.
pub data IsNumber (xs : List ℕ) (kind : Kind) : Type 0 where
  prefixed : (letter : ℕ) (base : Base) (digits : List ℕ) → base_of letter ≡ Some base → Is (run base.radix) digits
      → xs ≡ digit_zero ∷ letter ∷ digits → kind ≡ base.kind → IsNumber xs kind
  prefixed_big : (letter : ℕ) (base : Base) (digits : List ℕ) → base_of letter ≡ Some base → Is (run base.radix) digits
      → xs ≡ digit_zero ∷ letter ∷ (digits ++ codes "n") → kind ≡ base.big_kind → IsNumber xs kind
  decimal : Is integer xs → kind ≡ Decimal → IsNumber xs kind
  decimal_big : (digits : List ℕ) → Is integer digits
      → xs ≡ digits ++ codes "n" → kind ≡ DecimalBigInt → IsNumber xs kind
  with_point : (digits fraction exponent : List ℕ) → IsBeforePoint digits
      → IsOptional (Is (run 10)) fraction → IsOptional IsFloatExponent exponent
      → xs ≡ digits ++ codes "." ++ fraction ++ exponent → kind ≡ Float → IsNumber xs kind
  with_exponent : (digits exponent : List ℕ) → IsBeforePoint digits → IsExponent exponent kind
      → xs ≡ digits ++ exponent → IsNumber xs kind
  point_first : (fraction exponent : List ℕ) → Is (run 10) fraction → IsOptional IsFloatExponent exponent
      → xs ≡ codes "." ++ fraction ++ exponent → kind ≡ Float → IsNumber xs kind
  legacy_octal : IsLegacyOctal xs → kind ≡ Octal → IsNumber xs kind
  legacy_decimal : IsLegacyDecimal xs → kind ≡ Decimal → IsNumber xs kind

-- what no number may be followed by: a digit, or a character that begins a name
unfoldable pub may_not_follow_number : ℕ → Bool
may_not_follow_number c = is_digit_of 10 c || is_identifier_start c

-- the texts that may not follow a number of this kind
abbrev pub excluded_after : Kind → List ℕ → Bool
excluded_after Decimal ys = begins may_not_follow_number ys || begins (λ c. c == full_stop) ys
excluded_after _ ys = begins may_not_follow_number ys

-- A number begins here, good or at fault: there is a digit, or a point and a digit.
abbrev pub begins_number : List ℕ → Bool
begins_number [] = false
begins_number (c ∷ cs) = if c == full_stop then begins (is_digit_of 10) cs else is_digit_of 10 c
