-- How long characters are, in the units in which editors and people count columns.
use Rattle.std.specs.Prelude.{ℕ, ◌+◌, ◌-◌, List, [], ◌∷◌, nat_lt, nat_le, if◌then◌else◌}
use Rattle.std.specs.Char.{len_utf8}
use Rattle.js_lines.specs.declared.columns.ColumnUnit.{ColumnUnit}
use Rattle.js_lines.specs.declared.columns.ColumnUnit.TheVariants.{Bytes, Characters, Utf16Units}

-- the length of a character: of its bytes in UTF-8, 1, or of its units in UTF-16
abbrev pub width_in : ColumnUnit → ℕ → ℕ
width_in Bytes c = len_utf8 c
width_in Characters c = 1
width_in Utf16Units c = if nat_lt c 0x10000 then 1 else 2

-- the length of characters
abbrev pub length_in : ColumnUnit → List ℕ → ℕ
length_in unit [] = 0
length_in unit (c ∷ cs) = width_in unit c + length_in unit cs

-- the longest front of the characters that is no longer than n
abbrev pub front_within : ColumnUnit → ℕ → List ℕ → List ℕ
front_within unit n [] = []
front_within unit n (c ∷ cs) =
    if nat_le (width_in unit c) n then c ∷ front_within unit (n - width_in unit c) cs else []

-- the characters behind that front
abbrev pub behind_front : ColumnUnit → ℕ → List ℕ → List ℕ
behind_front unit n [] = []
behind_front unit n (c ∷ cs) =
    if nat_le (width_in unit c) n then behind_front unit (n - width_in unit c) cs else c ∷ cs

-- the characters at the end that have n bytes, or a few more where a character lies across
abbrev pub back_within : ℕ → List ℕ → List ℕ
back_within n cs = behind_front Bytes (length_in Bytes cs - n) cs
