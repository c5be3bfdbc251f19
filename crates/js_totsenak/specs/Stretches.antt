-- Stretches of a text.
use Rattle.std.specs.Prelude.{ℕ, ◌-◌, List}
use Rattle.js_lines.specs.Columns.{front_within}
use Rattle.js_lines.specs.Lines.{back_at}
use Rattle.js_lines.specs.declared.columns.ColumnUnit.TheVariants.{Bytes}

-- the characters of the text from one offset up to another, both in bytes
abbrev pub characters_between : List ℕ → ℕ → ℕ → List ℕ
characters_between text start end = front_within Bytes (end - start) (back_at text start)
