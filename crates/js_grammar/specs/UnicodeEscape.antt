-- Unicode escapes (ECMA-262 12.9.4), from what stands behind their `\u` on.
use Rattle.std.specs.Prelude.{ℕ, ◌*◌, ◌+◌, Bool, List, [], ◌∷◌, ◌++◌, length, take, drop, ◌==◌, ◌&&◌, not, nat_lt}
use Rattle.std.specs.Prelude.{nat_le}
use Rattle.std.specs.Prelude.{codes, Option, Some, None, if◌then◌else◌}
use Rattle.std.specs.Char.{digit_value}
use Rattle.std.specs.Str.Parse.{digits_value}
use Rattle.js_text.specs.Characters.{begins, before_first}
use Rattle.js_kind.specs.Digits.{is_digit_of}

abbrev pub left_curly_bracket : ℕ
left_curly_bracket = 0x7B

abbrev pub right_curly_bracket : ℕ
right_curly_bracket = 0x7D

-- the greatest code point
abbrev pub last_code_point : ℕ
last_code_point = 0x10FFFF

abbrev pub is_no_hex_digit : ℕ → Bool
is_no_hex_digit c = not (is_digit_of 16 c)

-- What was taken behind `\u`: its characters, its code point, where it has one, and what is left of the text. Without a
-- code point it breaks off before the first character that doesn't fit.
pub record UnicodeEscape : Type 0 where
  pub text : List ℕ
  pub code_point : Option ℕ
  pub rest : List ℕ

-- just so many hexadecimal digits, or as many of them as stand there
abbrev pub hex_digits : ℕ → List ℕ → UnicodeEscape
hex_digits count text =
    let digits = before_first is_no_hex_digit (take count text) in
    record {
      text = digits;
      code_point = if length digits == count then Some (digits_value 16 digits) else None;
      rest = drop (length digits) text;
    }

-- four hexadecimal digits, or as many as stand there
unfoldable pub four_digits : List ℕ → UnicodeEscape
four_digits text = hex_digits 4 text

-- Hexadecimal digits that go on a number, up to the first one that brings it past the last code point, that one too.
unfoldable pub digits_of_code_point : ℕ → List ℕ → List ℕ
digits_of_code_point value [] = []
digits_of_code_point value (c ∷ cs) =
    if is_no_hex_digit c then []
    else if nat_lt last_code_point (value * 16 + digit_value c) then c ∷ []
    else c ∷ digits_of_code_point (value * 16 + digit_value c) cs

-- what stands behind a `{`: the digits of a code point, at least one, and a `}`
unfoldable pub braced_digits : List ℕ → UnicodeEscape
braced_digits text =
    let digits = digits_of_code_point 0 text in
    let rest = drop (length digits) text in
    let value = digits_value 16 digits in
    if nat_lt 0 (length digits) && nat_le value last_code_point && begins (λ c. c == right_curly_bracket) rest
    then record { text = codes "{" ++ digits ++ codes "}"; code_point = Some value; rest = drop 1 rest }
    else record { text = codes "{" ++ digits; code_point = None; rest = rest }

-- what stands behind a `\u`
unfoldable pub unicode_escape : List ℕ → UnicodeEscape
unicode_escape text =
    if begins (λ c. c == left_curly_bracket) text then braced_digits (drop 1 text) else four_digits text
