-- A line of a source with a mark under a place of it, as a terminal shows it.
use Rattle.std.specs.Prelude.{ℕ, Bool, not, ◌&&◌, ◌||◌, ◌==◌, nat_le, nat_lt, List, [], ◌∷◌, ◌++◌, codes}
use Rattle.std.specs.Prelude.{encode_utf8, false, replicate, unwrap_or, if◌then◌else◌}
use Rattle.std.specs.List.{flat_map}
use Rattle.unicode_width.specs.Width.{char_width}

-- the tabulator
abbrev pub tab : ℕ
tab = 9

-- The characters that no terminal is sent: controls other than TAB, and those that turn the direction of a text or end
-- a line in it.
unfoldable pub is_hidden : ℕ → Bool
is_hidden c =
    ((nat_lt c 0x20 && not (c == 9)) || (nat_le 0x7F c && nat_le c 0x9F))
    || (((c == 0x061C) || (nat_le 0x200E c && nat_le c 0x200F))
    || ((nat_le 0x2028 c && nat_le c 0x202E) || (nat_le 0x2066 c && nat_le c 0x2069)))

-- the character that stands for one: U+FFFD for those that no terminal is sent, and else itself
abbrev pub shown : ℕ → ℕ
shown c = if is_hidden c then 0xFFFD else c

abbrev pub shown_text : ℕ → List ℕ
shown_text c = encode_utf8 (shown c)

-- what stands under a character: a TAB under a TAB, and else as many spaces as it is wide
abbrev pub pad : ℕ → List ℕ
pad c = if c == 9 then 9 ∷ [] else replicate (unwrap_or (char_width false (shown c)) 0) 32

-- at most so many bytes of a line are shown before a place, and at most as many from it on
abbrev pub most_shown : ℕ
most_shown = 160

-- characters of a line before and behind a place, with a mark under the place
unfoldable pub excerpt : List ℕ → List ℕ → List ℕ
excerpt before behind =
    flat_map shown_text before ++ flat_map shown_text behind ++ codes "\n" ++ flat_map pad before ++ codes "^\n"
