-- How characters are written in a page, and what is seen of them.
use Rattle.std.specs.Prelude.{ℕ, Bool, true, false, not, ◌&&◌, ◌||◌, ◌==◌, nat_le, nat_lt, List, [], ◌∷◌, ◌++◌, codes}
use Rattle.std.specs.Prelude.{encode_utf8, map, if◌then◌else◌}
use Rattle.std.specs.Fmt.{digits}
use Rattle.js_page.specs.Reading.{Seen, in_text, tag}

abbrev is_between : ℕ → ℕ → ℕ → Bool
is_between first last c = nat_le first c && nat_le c last

-- The characters that are not seen where they stand: controls other than TAB, LF and CR, those that turn the direction
-- of a text, and those without width.
unfoldable pub is_hidden : ℕ → Bool
is_hidden c =
    ((nat_lt c 0x20 && not (c == 9) && not (c == 10) && not (c == 13)) || is_between 0x7F 0x9F c)
    || ((c == 0xAD) || (c == 0x61C))
    || (is_between 0x115F 0x1160 c || is_between 0x17B4 0x17B5 c || (c == 0x180E))
    || (is_between 0x200B 0x200F c || is_between 0x2028 0x202E c || is_between 0x2060 0x206F c)
    || ((c == 0x3164) || (c == 0xFEFF) || (c == 0xFFA0) || is_between 0xFFF9 0xFFFB c)
    || is_between 0xE0000 0xE01EF c

-- the sign that stands for a NUL, which no page can hold
abbrev pub nul_sign : ℕ
nul_sign = 0x2400

-- a character as it is shown
abbrev pub shown : ℕ → ℕ
shown c = if c == 0 then nul_sign else c

-- a number in base 16
abbrev pub hex_digits : ℕ → List ℕ
hex_digits n = digits 16 true n

-- the zeros before the digits of a number, which has four digits at least
unfoldable pub zeros : ℕ → List ℕ
zeros n =
    if nat_lt n 0x10 then codes "000" else if nat_lt n 0x100 then codes "00" else if nat_lt n 0x1000 then codes "0"
    else []

-- the tag before a hidden character, which tells its number
unfoldable pub hidden_tag : ℕ → List ℕ
hidden_tag c = codes "b title=U+" ++ zeros c ++ hex_digits c

-- a hidden character: it stands in an element of its own
abbrev pub hidden_text : ℕ → List ℕ
hidden_text c = codes "<" ++ hidden_tag c ++ codes ">" ++ encode_utf8 c ++ codes "</b>"

-- A character as it is written. What HTML would take for a mark, or change, is written as a reference.
abbrev pub written : ℕ → List ℕ
written c =
    if c == 60 then codes "&lt;" else if c == 38 then codes "&amp;" else if c == 34 then codes "&#34;"
    else if c == 39 then codes "&#39;" else if c == 13 then codes "&#13;" else if c == 0 then encode_utf8 nul_sign
    else if is_hidden c then hidden_text c else encode_utf8 c

-- what is seen of a character: its bytes
abbrev pub bytes_seen : ℕ → List Seen
bytes_seen c = map in_text (encode_utf8 (shown c))

-- what is seen of a character that is hidden, or not
abbrev pub seen_hidden : Bool → ℕ → List Seen
seen_hidden true c = tag (hidden_tag c) ∷ bytes_seen c ++ tag (codes "/b") ∷ []
seen_hidden false c = bytes_seen c

-- what is seen of a character, in an element of its own where it is hidden
abbrev pub character_seen : ℕ → List Seen
character_seen c = seen_hidden (is_hidden c && not (c == 0)) c

-- a character as it is written in a title, where no elements can stand
abbrev pub in_title : ℕ → List ℕ
in_title c =
    if c == 60 then codes "&lt;" else if c == 38 then codes "&amp;" else if c == 34 then codes "&#34;"
    else if c == 39 then codes "&#39;" else if c == 13 then codes "&#13;" else if c == 0 then encode_utf8 nul_sign
    else encode_utf8 c
