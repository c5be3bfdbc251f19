-- Rows in blocks, whose places are moved block by block.
use Rattle.std.specs.Prelude.{◌≡◌, ℕ, ◌+◌, ◌-◌, ◌<◌, ◌≤◌, ◌^◌, Bool, false, leb, List, [], ◌∷◌, length, map, take, slice_get}
use Rattle.std.specs.List.{AllByRecursion, flat_map}
use Rattle.std.specs.Option.{option_map_or}
use Rattle.js_session.specs.Shifted.{OfEachPlace, shifted}
use Rattle.js_document.specs.declared.blocks.numbered.BlockRange.{BlockRange}
use Rattle.js_document.specs.declared.counts.FoundCounts.{FoundCounts}
use Rattle.js_document.specs.declared.gap.Entry.{Entry}
use Rattle.js_document.specs.Found.{counts_in, found_by}
use Rattle.js_document.specs.Gap.{count_tokens, rows_of, shifted_entry}

-- How contracts see a block: its entries, with their places in the text, and how many rows and live tokens stand before
-- it.
pub record BlockState (K : Type 0) : Type 0 where
  pub entries : List (Entry K)
  pub rows_before : ℕ
  pub tokens_before : ℕ

-- The place is one of those that are moved, and a `u32`, as it is once it is moved.
pub record MovesPlace (from to place : ℕ) : Type 0 where
  pub behind : from ≤ place
  pub small : place < 2 ^ 32
  pub fits : shifted from to place < 2 ^ 32

-- So is each place of the entry, and its token starts at its end or before it.
pub record MovesEntry {K : Type 0} (from to : ℕ) (entry : Entry K) : Type 0 where
  pub places : OfEachPlace (MovesPlace from to) entry.row
  pub ordered : entry.row.token.start ≤ entry.row.token.end

-- What a block holds: entries that may be moved so, how many live tokens these have, and how many items of each list.
pub record HoldsEntries {K : Type 0} (from to : ℕ) (entries : List (Entry K)) (tokens : ℕ) (found : FoundCounts)
    : Type 0 where
  pub moves : AllByRecursion (MovesEntry {K = K} from to) entries
  pub tokens_are : tokens ≡ count_tokens (rows_of {K = K} entries)
  pub found_are : found ≡ counts_in (found_by (rows_of {K = K} entries))

-- the entries of blocks
abbrev pub entries_in : {K : Type 0} → List (BlockState K) → List (Entry K)
entries_in {K} blocks = flat_map (λ (b : BlockState K). b.entries) blocks

-- The block has a row.
abbrev pub HasRows : {K : Type 0} → BlockState K → Type 0
HasRows {K} b = 0 < length b.entries

-- The block has a row, and each of its entries may be moved so.
pub record MovesBlock {K : Type 0} (from to : ℕ) (b : BlockState K) : Type 0 where
  pub some : HasRows {K = K} b
  pub moves : AllByRecursion (MovesEntry {K = K} from to) b.entries

-- the block, moved
abbrev pub moved_block : {K : Type 0} → ℕ → ℕ → BlockState K → BlockState K
moved_block {K} from to b = record b { entries = map (shifted_entry {K = K} from to) b.entries }

-- the first row of the block starts at the place or before it
abbrev pub starts_by : {K : Type 0} → ℕ → BlockState K → Bool
starts_by {K} place b =
    option_map_or (λ (e : Entry K). leb e.row.token.start place) (slice_get b.entries 0) false

-- Each block tells how many rows and live tokens stand before it, where so many stand before the first one.
abbrev pub AreNumbered : {K : Type 0} → ℕ → ℕ → List (BlockState K) → Type 0
AreNumbered {K} rows tokens [] = Unit {0}
AreNumbered {K} rows tokens (b ∷ bs) =
    (b.rows_before ≡ rows) × (b.tokens_before ≡ tokens)
    × AreNumbered {K = K} (rows + length b.entries) (tokens + count_tokens (rows_of {K = K} b.entries)) bs

-- the blocks, each telling that
abbrev pub numbered : {K : Type 0} → ℕ → ℕ → List (BlockState K) → List (BlockState K)
numbered {K} rows tokens [] = []
numbered {K} rows tokens (b ∷ bs) =
    record b { rows_before = rows; tokens_before = tokens }
    ∷ numbered {K = K} (rows + length b.entries) (tokens + count_tokens (rows_of {K = K} b.entries)) bs

-- Each of the blocks has a row, and tells how many stand before it; together they have so many.
pub record AreBlocks {K : Type 0} (blocks : List (BlockState K)) (len : ℕ) : Type 0 where
  pub some : AllByRecursion (HasRows {K = K}) blocks
  pub numbered : AreNumbered {K = K} 0 0 blocks
  pub len_is : len ≡ length (entries_in {K = K} blocks)
  pub small : len < 2 ^ 64

-- So many blocks begin at the row with the index or before it, and those behind them begin behind it.
pub record BeginUpTo {K : Type 0} (blocks : List (BlockState K)) (index count : ℕ) : Type 0 where
  pub few : count ≤ length blocks
  pub begins : 0 < count → length (entries_in {K = K} (take (count - 1) blocks)) ≤ index
  pub rest : count < length blocks → index < length (entries_in {K = K} (take count blocks))

-- The blocks of the range have the rows from one index up to another.
pub record HaveRows {K : Type 0} (blocks : List (BlockState K)) (start end : ℕ) (range : BlockRange) : Type 0 where
  pub ordered : range.from ≤ range.to
  pub inside : range.to ≤ length blocks
  pub low_is : range.low ≡ length (entries_in {K = K} (take range.from blocks))
  pub high_is : range.high ≡ length (entries_in {K = K} (take range.to blocks))
  pub starts : range.low ≤ start
  pub ends : end ≤ range.high
