-- Texts with escapes for what can't be shown.
use Rattle.std.specs.Prelude.{ℕ, false, ◌==◌, List, ◌++◌, codes, encode_utf8, if◌then◌else◌}
use Rattle.std.specs.Fmt.{digits}
use Rattle.js_totsenak.specs.Excerpt.{is_hidden}

-- a number in base 16
abbrev pub hex_digits : ℕ → List ℕ
hex_digits n = digits 16 false n

-- a character as it is shown: itself, or an escape for what no terminal is sent, for tabs and line ends, and for `\`
abbrev pub escaped : ℕ → List ℕ
escaped c =
    if c == 10 then codes "\\n"
    else if c == 13 then codes "\\r"
    else if c == 9 then codes "\\t"
    else if c == 92 then codes "\\\\"
    else if is_hidden c then codes "\\u{" ++ hex_digits c ++ codes "}" else encode_utf8 c
