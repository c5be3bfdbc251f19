-- The characters of a source text, and their classes (ECMA-262 11.1, 12.2, 12.3 and 12.7).
use Rattle.std.specs.Prelude.{◌≡◌, ℕ, ◌-◌, Bool, false, List, [], ◌∷◌, length, ◌==◌, ◌&&◌, ◌||◌, nat_le, drop}
use Rattle.std.specs.Prelude.{if◌then◌else◌}
use Rattle.std.specs.Str.{chars, encode_utf8_all, IsCharBoundary}
use Rattle.unicode_ident.specs.Ident.{is_xid_start, is_xid_continue}

-- A place is an offset on a boundary of characters, the end included: std's `IsCharBoundary`.

-- the characters from a place of the text on
abbrev pub from_place : List ℕ → ℕ → List ℕ
from_place text place = chars (drop place text)

-- the place of the text from which on these characters are left
abbrev pub place_before : List ℕ → List ℕ → ℕ
place_before text rest = length text - length (encode_utf8_all rest)

-- From the place p of the text to the place q stands the one character c.
pub record CharAt (text : List ℕ) (p c q : ℕ) : Type 0 where
  pub from : IsCharBoundary text p
  pub to : IsCharBoundary text q
  pub here : from_place text p ≡ c ∷ from_place text q

-- LF, CR, U+2028 and U+2029
unfoldable pub is_line_terminator : ℕ → Bool
is_line_terminator c = ((c == 10) || (c == 13)) || ((c == 0x2028) || (c == 0x2029))

-- the white space other than TAB and SP: VT, FF, U+FEFF and the characters of the category Zs
unfoldable pub is_irregular_whitespace : ℕ → Bool
is_irregular_whitespace c =
    ((c == 11) || (c == 12))
    || ((((c == 0xA0) || (c == 0x1680)) || ((nat_le 0x2000 c && nat_le c 0x200A) || (c == 0x202F)))
    || (((c == 0x205F) || (c == 0x3000)) || (c == 0xFEFF)))

-- TAB, SP, and the irregular white space
unfoldable pub is_white_space : ℕ → Bool
is_white_space c = ((c == 9) || (c == 32)) || is_irregular_whitespace c

-- the characters that begin a name: those of XID_Start, `$` and `_`
unfoldable pub is_identifier_start : ℕ → Bool
is_identifier_start c = is_xid_start c || ((c == 36) || (c == 95))

-- the characters that go on with a name: those of XID_Continue, `$`, U+200C and U+200D
unfoldable pub is_identifier_part : ℕ → Bool
is_identifier_part c = is_xid_continue c || ((c == 36) || ((c == 0x200C) || (c == 0x200D)))

-- the text begins with a character that passes
abbrev pub begins : (ℕ → Bool) → List ℕ → Bool
begins p [] = false
begins p (c ∷ cs) = p c

-- what is left from the first character on that passes
abbrev pub from_first : (ℕ → Bool) → List ℕ → List ℕ
from_first p [] = []
from_first p (c ∷ cs) = if p c then c ∷ cs else from_first p cs

-- what stands before that
abbrev pub before_first : (ℕ → Bool) → List ℕ → List ℕ
before_first p [] = []
before_first p (c ∷ cs) = if p c then [] else c ∷ before_first p cs
