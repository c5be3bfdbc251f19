-- What the searches through comments do (ECMA-262 12.4).
use Rattle.std.specs.Prelude.{◌≡◌, ℕ, ◌<◌, ◌≤◌, List, Option, Some, None, slice_index}
use Rattle.std.specs.List.{list_any}
use Rattle.js_text.specs.Ascii.{asterisk, slash}
use Rattle.js_text.specs.Characters.{is_line_terminator}
use Rattle.js_grammar.specs.Gap.{Cut}
use Rattle.js_source.specs.declared.four.FourBytes.{FourBytes}
use Rattle.js_source.specs.declared.pair.BytePair.{BytePair}
use Rattle.js_source.specs.Source.{At, rest}
use Rattle.js_spell.specs.declared.comment.BlockEnd.{BlockEnd}

-- the first bytes of the line terminators, which are LF, CR, and that of U+2028 and U+2029, and `@`
abbrev pub line_bytes : FourBytes
line_bytes = record { first = 0x0A; second = 0x0D; third = 0xE2; fourth = 0x40 }

-- the mark that ends a block comment
abbrev pub block_end : BytePair
block_end = record { first = asterisk; second = slash }

-- Between the two places stands no `@`.
abbrev pub HasNoAt : List ℕ → ℕ → ℕ → Type 0
HasNoAt text from to = (k : ℕ) → from ≤ k → k < to → slice_index text k ≡ 0x40 → ⊥

-- The block comment ends at the new place, and whether a line has ended before is said; or nothing ends it.
abbrev pub ReadsCut : Option Cut → At → Option BlockEnd → Type 0
ReadsCut found new (Some end) =
    (cut : Cut) × (found ≡ Some cut) × (list_any is_line_terminator cut.front ≡ end.line_has_ended)
    × (cut.rest ≡ rest new)
ReadsCut found new None = found ≡ None
