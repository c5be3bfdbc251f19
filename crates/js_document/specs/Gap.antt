-- Rows around a gap: those behind it with their places padded.
use Rattle.std.specs.Prelude.{◌≡◌, ℕ, ◌+◌, ◌-◌, ◌<◌, ◌≤◌, ◌^◌, Bool, true, false, List, [], ◌∷◌, ◌++◌, length, map}
use Rattle.std.specs.Prelude.{take, drop, reverse, slice_get, Option, Some, None, if◌then◌else◌}
use Rattle.std.specs.List.{AllByRecursion}
use Rattle.js_kind.specs.TokenParts.{TokenParts}
use Rattle.js_session.specs.Effects.{row_effect}
use Rattle.js_session.specs.Shifted.{OfEachPlace, shifted_row}
use Rattle.js_session.specs.declared.command.Effect.{Effect}
use Rattle.js_session.specs.declared.command.Effect.TheVariants.{Reads, Peeks, ReLexes, Opens, Rewinds, Commits}
use Rattle.js_session.specs.declared.row.Row.{Row}
use Rattle.js_document.specs.declared.gap.Entry.{Entry}

-- the effects that read the last token again
abbrev pub again_effect : Effect → Bool
again_effect (Reads goal) = false
again_effect (Peeks goal) = false
again_effect (ReLexes goal) = true
again_effect Opens = false
again_effect Rewinds = false
again_effect Commits = false

-- the effects that read a token behind the last one
abbrev pub on_effect : Effect → Bool
on_effect (Reads goal) = true
on_effect (Peeks goal) = false
on_effect (ReLexes goal) = false
on_effect Opens = false
on_effect Rewinds = false
on_effect Commits = false

-- the row reads the token before it again
abbrev pub reads_again : Row → Bool
reads_again row = again_effect (row_effect row.command)

-- the row reads a token behind the last one
abbrev pub reads_on : Row → Bool
reads_on row = on_effect (row_effect row.command)

-- how many live tokens more there are with the row
abbrev pub more_tokens : Row → ℕ
more_tokens row = if reads_on row then 1 else 0

-- how many there are with the rows
abbrev pub count_tokens : List Row → ℕ
count_tokens [] = 0
count_tokens (row ∷ rows) = more_tokens row + count_tokens rows

-- the rows of entries
abbrev pub rows_of : {K : Type 0} → List (Entry K) → List Row
rows_of {K} entries = map (λ (e : Entry K). e.row) entries

-- an entry with each of its places shifted
abbrev pub shifted_entry : {K : Type 0} → ℕ → ℕ → Entry K → Entry K
shifted_entry from to entry = record entry { row = shifted_row from to entry.row }

-- the entries around a gap, those behind it with their places in the text
abbrev pub around : {K : Type 0} → List (Entry K) → ℕ → List (Entry K) → List (Entry K)
around {K} front pad back = front ++ map (shifted_entry {K = K} pad 0) (reverse back)

-- The place is a padded one.
pub record IsPaddedPlace (pad place : ℕ) : Type 0 where
  pub padded : pad ≤ place
  pub fits : place < 2 ^ 32

-- Each place of the entry is a padded one, and its token starts at its end or before it.
pub record IsPadded {K : Type 0} (pad : ℕ) (entry : Entry K) : Type 0 where
  pub places : OfEachPlace (IsPaddedPlace pad) entry.row
  pub ordered : entry.row.token.start ≤ entry.row.token.end

-- Each place of the entry may be padded, and its token starts at its end or before it.
pub record MayPad {K : Type 0} (pad : ℕ) (entry : Entry K) : Type 0 where
  pub places : OfEachPlace (λ place. place + pad < 2 ^ 32) entry.row
  pub ordered : entry.row.token.start ≤ entry.row.token.end

-- The later token starts no earlier, and ends no earlier.
pub record ComesLater (token later : TokenParts) : Type 0 where
  pub starts : token.start ≤ later.start
  pub ends : token.end ≤ later.end

-- Rows whose tokens stand in the order of their places.
abbrev pub AreInOrder : List Row → Type 0
AreInOrder [] = Unit {0}
AreInOrder (row ∷ rows) =
    AllByRecursion (λ (later : Row). ComesLater row.token later.token) rows × AreInOrder rows

-- there is no such entry, or it ends four bytes or more before the place
abbrev pub EndsBefore : {K : Type 0} → ℕ → Option (Entry K) → Type 0
EndsBefore {K} start None = Unit {0}
EndsBefore {K} start (Some entry) = entry.row.token.end + 4 ≤ start

-- the last of the entries, if there is one
abbrev pub last_entry : {K : Type 0} → List (Entry K) → Option (Entry K)
last_entry {K} entries = slice_get entries (length entries - 1)

-- How contracts see rows around a gap: those before it, those behind it, the last one first and with their places padded,
-- and what their pad is.
pub record GapState (K : Type 0) : Type 0 where
  pub front : List (Entry K)
  pub back : List (Entry K)
  pub pad : ℕ

-- the entries that rows around a gap are
abbrev pub entries_of : {K : Type 0} → GapState K → List (Entry K)
entries_of {K} g = around {K = K} g.front g.pad g.back

-- The gap stands elsewhere, perhaps.
pub record MovesGap {K : Type 0} (old new : GapState K) : Type 0 where
  pub entries : entries_of {K = K} new ≡ entries_of {K = K} old
  pub pad : new.pad ≡ old.pad

-- the rows with the gap behind so many of them
abbrev pub gap_at : {K : Type 0} → List (Entry K) → ℕ → ℕ → GapState K
gap_at {K} rows gap pad = record {
  front = take gap rows;
  back = reverse (map (shifted_entry {K = K} 0 pad) (drop gap rows));
  pad = pad;
}

-- The gap is behind so many of the rows, and each of them may be padded.
pub record IsGap {K : Type 0} (rows : List (Entry K)) (gap pad : ℕ) : Type 0 where
  pub few : gap ≤ length rows
  pub may_pad : AllByRecursion (MayPad {K = K} pad) rows

-- The rows stand in the order of their places, and so do those behind the gap with their places padded.
pub record AreOrdered {K : Type 0} (g : GapState K) : Type 0 where
  pub rows : AreInOrder (rows_of {K = K} (entries_of {K = K} g))
  pub back : AreInOrder (reverse (rows_of {K = K} g.back))
