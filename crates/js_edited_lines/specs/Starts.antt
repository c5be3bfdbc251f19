-- Where lines begin, in two lists around a gap.
use Rattle.std.specs.Prelude.{ℕ, ◌+◌, ◌-◌, ◌<◌, ◌≤◌, List, ◌++◌, length, map, reverse, slice_index}
use Rattle.js_edited_lines.specs.declared.starts.Starts.{Starts}

-- places counted from the end of a text, the nearest last, as places from its start, in order
abbrev pub turned : ℕ → List ℕ → List ℕ
turned bytes places = map (λ place. bytes - place) (reverse places)

-- the places where lines begin, in order
abbrev pub all_starts : Starts → List ℕ
all_starts starts = starts.before.items ++ turned starts.bytes starts.behind.items

-- Of the lines that begin at these places, the last that begins at a place or before it is among those from a line up to
-- another. The first line always begins so early.
pub record IsAmong (starts : List ℕ) (place line end : ℕ) : Type 0 where
  pub ordered : line < end
  pub within : end ≤ length starts
  pub here : 0 < line → slice_index starts line ≤ place
  pub next : end < length starts → place < slice_index starts end

-- It is this line.
abbrev pub IsLastUpTo : List ℕ → ℕ → ℕ → Type 0
IsLastUpTo starts place line = IsAmong starts place line (line + 1)
