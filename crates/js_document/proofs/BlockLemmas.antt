-- Blocks of rows: rows that are moved twice, and which block a row stands in.
use Rattle.std.proofs.Common.{◌≡◌, ℕ, zero, suc, ◌+◌, ◌-◌, ◌<◌, ◌≤◌, true, false, leb, List, [], ◌∷◌, ◌++◌, length, map}
use Rattle.std.proofs.Common.{take, drop, refl, sym, ◌∙◌, ap, subst, arith, append-nil, get_or, length-append}
use Rattle.std.proofs.Common.{Result, Some, inl, inr}
use Rattle.std.specs.List.{AllByRecursion}
use Rattle.std.specs.List.Sorted.{IsPartitionPoint, IsPartitionedBy}
use Rattle.std.specs.Prelude.{◌^◌, ◌⊎◌, IfOk, slice_get}
use Rattle.std.proofs.lemmas.Bool.{le-leb, leb-false, leb-true}
use Rattle.std.proofs.lemmas.List.{length-map, map-append, take-append-drop, take-append-le}
use Rattle.std.proofs.lemmas.List.Concat.{flat_map-append}
use Rattle.std.proofs.lemmas.Option.{slice_get-get_or}
use Rattle.std.proofs.lemmas.Result.{IfOk-weaker}
use Rattle.js_session.specs.declared.row.Row.{Row}
use Rattle.js_session.specs.Shifted.{FitsShifted, ShiftFits, shifted}
use Rattle.js_session.proofs.RowsWithin.{row_weaker}
use Rattle.js_document.specs.declared.counts.FoundCounts.{FoundCounts}
use Rattle.js_document.specs.declared.gap.Entry.{Entry}
use Rattle.js_document.specs.Blocks.{AreNumbered, BeginUpTo, BlockState, HasRows, HoldsEntries, MovesBlock, MovesEntry}
use Rattle.js_document.specs.Blocks.{MovesPlace, entries_in, moved_block, numbered}
use Rattle.js_document.specs.Gap.{AreInOrder, MayPad, count_tokens, rows_of, shifted_entry}
use Rattle.js_document.proofs.GapLemmas.{count_both}
use Rattle.js_document.proofs.KeptLemmas.{all_first, all_rest, order_first, order_rest, rows_joined}
use Rattle.js_document.proofs.ListLemmas.{drop_at_item, get_dropped, get_left, get_right, get_there, get_within}
use Rattle.js_document.proofs.ListLemmas.{take_at_item, take_parts, take_past}
use Rattle.js_document.proofs.ShiftLemmas.{row_both, row_composed, row_of_shifted, row_still, row_to_shifted}

-- what a call gives, told otherwise
pub given_as : {T E : Type 0} (r : Result T E) (y z : T) → IfOk r (λ x. x ≡ y) → y ≡ z → IfOk r (λ x. x ≡ z)
given_as r y z gives same = IfOk-weaker r (λ x. x ≡ y) (λ x. x ≡ z) (λ x is. is ∙ same) gives

-- two moves, one behind the other, are one
abbrev twice_from : ℕ → ℕ → ℕ → ℕ
twice_from from to start = from + (start - to)

abbrev twice_to : ℕ → ℕ → ℕ → ℕ
twice_to to start end = to - start + end

module _ {K : Type 0} where
  -- Entries that are moved by nothing stay as they are.
  entry_still : (e : Entry K) → MovesEntry {K = K} 0 0 e → shifted_entry {K = K} 0 0 e ≡ e
  entry_still e moves = λ j. record e {
    row = row_still e.row (row_weaker (MovesPlace 0 0) (λ place. 0 ≤ place) (λ place is. is.behind) e.row moves.places) j;
  }

  pub each_still : (es : List (Entry K)) → AllByRecursion (MovesEntry {K = K} 0 0) es
      → map (shifted_entry {K = K} 0 0) es ≡ es
  each_still [] all = refl
  each_still (e ∷ es) all = λ j. entry_still e all.0 j ∷ each_still es all.1 j

  -- an entry of these parts
  pub same_entry : (e : Entry K) (row : Row) (state : K) → row ≡ e.row → state ≡ e.state
      → record { row = row; state = state } ≡ e
  same_entry e row state rows states = λ j. record { row = rows j; state = states j }

  -- the places of what may be moved are `u32` then
  pub moves_fit : (from to : ℕ) (e : Entry K) → MovesEntry {K = K} from to e → ShiftFits from to e.row
  moves_fit from to e moves =
      row_weaker (MovesPlace from to) (FitsShifted from to) (λ place is. is.fits) e.row moves.places

  -- What may be padded may be moved by nothing.
  pub pad_moves : (pad : ℕ) (es : List (Entry K)) → AllByRecursion (MayPad {K = K} pad) es
      → AllByRecursion (MovesEntry {K = K} 0 0) es
  pad_moves pad [] all = tt
  pad_moves pad (e ∷ es) all = (
    record {
      places =
          row_weaker (λ place. place + pad < 2 ^ 32) (MovesPlace 0 0)
          (λ place less. record { behind = omega arith; small = omega (arith, less); fits = omega (arith, less) }) e.row
          all.0.places;
      ordered = all.0.ordered;
    },
    pad_moves pad es all.1,
  )

  -- An entry that was moved is padded.
  pub padded_entry : (from to pad : ℕ) (e : Entry K) → MovesEntry {K = K} from to e
      → shifted_entry {K = K} from (to + pad) e ≡ shifted_entry {K = K} 0 pad (shifted_entry {K = K} from to e)
  padded_entry from to pad e moves = λ j. record e {
    row =
        row_composed (MovesPlace from to) from (to + pad) from to 0 pad (λ place is. omega arith) e.row moves.places j;
  }

  pub padded_moves : (from to pad : ℕ) (e : Entry K) → MovesEntry {K = K} from to e
      → MayPad {K = K} pad (shifted_entry {K = K} from to e) → MovesEntry {K = K} from (to + pad) e
  padded_moves from to pad e moves may = record {
    places =
        row_weaker (λ place. MovesPlace from to place × (shifted from to place + pad < 2 ^ 32))
        (MovesPlace from (to + pad))
        (λ place both.
        record { behind = both.0.behind; small = both.0.small; fits = (let less = both.1 in omega (arith, less)) }) e.row
        (row_both (MovesPlace from to) (λ place. shifted from to place + pad < 2 ^ 32) e.row moves.places
        (row_of_shifted (λ place. place + pad < 2 ^ 32) from to e.row may.places));
    ordered = moves.ordered;
  }

  module _ (from to start end : ℕ) where
    -- An entry that was moved is moved again: both are one move.
    entry_again : (e : Entry K) → MovesEntry {K = K} from to e
        → shifted_entry {K = K} (twice_from from to start) (twice_to to start end) e ≡ shifted_entry {K = K} start end (shifted_entry {K = K} from to e)
    entry_again e moves = λ j. record e {
      row =
          row_composed (MovesPlace from to) (twice_from from to start) (twice_to to start end) from to start end
          (λ place is. omega arith) e.row moves.places j;
    }

    pub each_again : (es : List (Entry K)) → AllByRecursion (MovesEntry {K = K} from to) es
        → map (shifted_entry {K = K} (twice_from from to start) (twice_to to start end)) es
        ≡ map (shifted_entry {K = K} start end) (map (shifted_entry {K = K} from to) es)
    each_again [] all = refl
    each_again (e ∷ es) all = λ j. entry_again e all.0 j ∷ each_again es all.1 j

    moves_again : (e : Entry K) → MovesEntry {K = K} from to e
        → MovesEntry {K = K} start end (shifted_entry {K = K} from to e) → MovesEntry {K = K} (twice_from from to start) (twice_to to start end) e
    moves_again e moves more = record {
      places =
          row_weaker (λ place. MovesPlace from to place × MovesPlace start end (shifted from to place))
          (MovesPlace (twice_from from to start) (twice_to to start end))
          (λ place both.
          let first = both.0.behind in
          let behind = both.1.behind in
          let fits = both.1.fits in
          record {
            behind = omega (arith, first, behind);
            small = both.0.small;
            fits = omega (arith, first, behind, fits);
          }) e.row
          (row_both (MovesPlace from to) (λ place. MovesPlace start end (shifted from to place)) e.row moves.places
          (row_of_shifted (MovesPlace start end) from to e.row more.places));
      ordered = moves.ordered;
    }

    pub all_again : (es : List (Entry K)) → AllByRecursion (MovesEntry {K = K} from to) es
        → AllByRecursion (MovesEntry {K = K} start end) (map (shifted_entry {K = K} from to) es)
        → AllByRecursion (MovesEntry {K = K} (twice_from from to start) (twice_to to start end)) es
    all_again [] all more = tt
    all_again (e ∷ es) all more = (moves_again e all.0 more.0, all_again es all.1 more.1)

    -- The places of one tell that the sums are `u32`.
    pub low_fits : (e : Entry K) → MovesEntry {K = K} from to e
        → MovesEntry {K = K} start end (shifted_entry {K = K} from to e) → twice_from from to start < 2 ^ 32
    low_fits e moves more =
        let place = (moves_again e moves more).places.place in
        let behind = place.behind in
        let small = place.small in
        omega (arith, behind, small)

    pub high_fits : (e : Entry K) → MovesEntry {K = K} from to e
        → MovesEntry {K = K} start end (shifted_entry {K = K} from to e) → twice_to to start end < 2 ^ 32
    high_fits e moves more =
        let fits = (moves_again e moves more).places.place.fits in
        omega (arith, fits)

    -- So does the first of the entries of a block.
    pub first_low : (es : List (Entry K)) → 0 < length (map (shifted_entry {K = K} from to) es)
        → AllByRecursion (MovesEntry {K = K} from to) es
        → AllByRecursion (MovesEntry {K = K} start end) (map (shifted_entry {K = K} from to) es) → twice_from from to start < 2 ^ 32
    first_low [] some all more = absurd (omega (arith, some))
    first_low (e ∷ es) some all more = low_fits e all.0 more.0

    pub first_high : (es : List (Entry K)) → 0 < length (map (shifted_entry {K = K} from to) es)
        → AllByRecursion (MovesEntry {K = K} from to) es
        → AllByRecursion (MovesEntry {K = K} start end) (map (shifted_entry {K = K} from to) es) → twice_to to start end < 2 ^ 32
    first_high [] some all more = absurd (omega (arith, some))
    first_high (e ∷ es) some all more = high_fits e all.0 more.0

    -- A block holds them as before.
    pub held_again : (es : List (Entry K)) (tokens : ℕ) (found : FoundCounts) (new_from new_to : ℕ) → new_from ≡ twice_from from to start
        → new_to ≡ twice_to to start end → HoldsEntries {K = K} from to es tokens found
        → AllByRecursion (MovesEntry {K = K} start end) (map (shifted_entry {K = K} from to) es)
        → HoldsEntries {K = K} new_from new_to es tokens found
    held_again es tokens found new_from new_to from_is to_is holds more = record {
      moves =
          subst (λ n. AllByRecursion (MovesEntry {K = K} n new_to) es) (sym from_is)
          (subst (λ n. AllByRecursion (MovesEntry {K = K} (twice_from from to start) n) es) (sym to_is) (all_again es holds.moves more));
      tokens_are = holds.tokens_are;
      found_are = holds.found_are;
    }

  -- What was moved may be moved by nothing.
  pub moved_moves : (from to : ℕ) (es : List (Entry K)) → AllByRecursion (MovesEntry {K = K} from to) es
      → AllByRecursion (MovesEntry {K = K} 0 0) (map (shifted_entry {K = K} from to) es)
  moved_moves from to [] all = tt
  moved_moves from to (e ∷ es) all = (
    record {
      places =
          row_to_shifted (MovesPlace 0 0) from to e.row
          (row_weaker (MovesPlace from to) (λ place. MovesPlace 0 0 (shifted from to place))
          (λ place is. record {
            behind = omega arith;
            small = is.fits;
            fits = (let fits = is.fits in omega (arith, fits));
          }) e.row all.0.places);
      ordered = (let ordered = all.0.ordered in omega (arith, ordered));
    },
    moved_moves from to es all.1,
  )

  -- The entries of blocks that are put together.
  pub entries_both : (xs ys : List (BlockState K))
      → entries_in {K = K} (xs ++ ys) ≡ entries_in {K = K} xs ++ entries_in {K = K} ys
  entries_both xs ys = flat_map-append (λ (b : BlockState K). b.entries) xs ys

  pub entries_parts : (n : ℕ) (bs : List (BlockState K))
      → entries_in {K = K} bs ≡ entries_in {K = K} (take n bs) ++ entries_in {K = K} (drop n bs)
  entries_parts n bs = ap (entries_in {K = K}) (sym (take-append-drop n bs)) ∙ entries_both (take n bs) (drop n bs)

  pub entries_moved : (from to : ℕ) (bs : List (BlockState K))
      → entries_in {K = K} (map (moved_block {K = K} from to) bs)
      ≡ map (shifted_entry {K = K} from to) (entries_in {K = K} bs)
  entries_moved from to [] = refl
  entries_moved from to (b ∷ bs) =
      ap (λ es. map (shifted_entry {K = K} from to) b.entries ++ es) (entries_moved from to bs)
      ∙ sym (map-append (shifted_entry {K = K} from to) b.entries (entries_in {K = K} bs))

  pub some_moved : (from to : ℕ) (bs : List (BlockState K)) → AllByRecursion (HasRows {K = K}) bs
      → AllByRecursion (HasRows {K = K}) (map (moved_block {K = K} from to) bs)
  some_moved from to [] all = tt
  some_moved from to (b ∷ bs) all = (
    (let some = all.0 in let long = length-map b.entries (shifted_entry {K = K} from to) in omega (arith, some, long)),
    some_moved from to bs all.1,
  )

  -- Blocks may be moved where their entries may.
  pub blocks_move : (from to : ℕ) (bs : List (BlockState K)) → AllByRecursion (HasRows {K = K}) bs
      → AllByRecursion (MovesEntry {K = K} from to) (entries_in {K = K} bs)
      → AllByRecursion (MovesBlock {K = K} from to) bs
  blocks_move from to [] some all = tt
  blocks_move from to (b ∷ bs) some all = (
    record {
      some = some.0;
      moves = all_first (MovesEntry {K = K} from to) b.entries (entries_in {K = K} bs) all;
    },
    blocks_move from to bs some.1 (all_rest (MovesEntry {K = K} from to) b.entries (entries_in {K = K} bs) all),
  )

  -- Blocks that are numbered.
  pub numbered_are : (rows tokens : ℕ) (bs : List (BlockState K))
      → AreNumbered {K = K} rows tokens (numbered {K = K} rows tokens bs)
  numbered_are rows tokens [] = tt
  numbered_are rows tokens (b ∷ bs) =
      (refl, refl, numbered_are (rows + length b.entries) (tokens + count_tokens (rows_of {K = K} b.entries)) bs)

  pub numbered_entries : (rows tokens : ℕ) (bs : List (BlockState K))
      → entries_in {K = K} (numbered {K = K} rows tokens bs) ≡ entries_in {K = K} bs
  numbered_entries rows tokens [] = refl
  numbered_entries rows tokens (b ∷ bs) =
      ap (λ es. b.entries ++ es)
      (numbered_entries (rows + length b.entries) (tokens + count_tokens (rows_of {K = K} b.entries)) bs)

  pub numbered_some : (rows tokens : ℕ) (bs : List (BlockState K)) → AllByRecursion (HasRows {K = K}) bs
      → AllByRecursion (HasRows {K = K}) (numbered {K = K} rows tokens bs)
  numbered_some rows tokens [] all = tt
  numbered_some rows tokens (b ∷ bs) all =
      (all.0, numbered_some (rows + length b.entries) (tokens + count_tokens (rows_of {K = K} b.entries)) bs all.1)

  -- how many rows and live tokens stand before the block with a number
  abbrev pub rows_up_to : List (BlockState K) → ℕ → ℕ
  rows_up_to bs n = length (entries_in {K = K} (take n bs))

  abbrev pub tokens_up_to : List (BlockState K) → ℕ → ℕ
  tokens_up_to bs n = count_tokens (rows_of {K = K} (entries_in {K = K} (take n bs)))

  numbers_are : (rows tokens : ℕ) (bs : List (BlockState K)) → AreNumbered {K = K} rows tokens bs → (n : ℕ)
      (b : BlockState K) → slice_get bs n ≡ Some b
      → (b.rows_before ≡ rows + rows_up_to bs n) × (b.tokens_before ≡ tokens + tokens_up_to bs n)
  numbers_are rows tokens [] are n b at = absurd (cc)
  numbers_are rows tokens (x ∷ bs) are zero b at =
      let same : x ≡ b = cc in
      let first = are.0 in
      let second = are.1 in
      let one = ap (λ (y : BlockState K). y.rows_before) same in
      let other = ap (λ (y : BlockState K). y.tokens_before) same in
      (omega (arith, first, one), omega (arith, second, other))
  numbers_are rows tokens (x ∷ bs) are (suc n) b at =
      let more = numbers_are (rows + length x.entries) (tokens + count_tokens (rows_of {K = K} x.entries)) bs are.2 n b at in
      let long = length-append x.entries (entries_in {K = K} (take n bs)) in
      let count = count_both {K = K} x.entries (entries_in {K = K} (take n bs)) in
      let first = more.0 in
      let second = more.1 in
      (omega (arith, first, long), omega (arith, second, count))

  pub before_is : (bs : List (BlockState K)) → AreNumbered {K = K} 0 0 bs → (n : ℕ) (b : BlockState K)
      → slice_get bs n ≡ Some b → b.rows_before ≡ rows_up_to bs n
  before_is bs are n b at = (let is = (numbers_are 0 0 bs are n b at).0 in omega (arith, is))

  tokens_before_is : (bs : List (BlockState K)) → AreNumbered {K = K} 0 0 bs → (n : ℕ) (b : BlockState K)
      → slice_get bs n ≡ Some b → b.tokens_before ≡ tokens_up_to bs n
  tokens_before_is bs are n b at = (let is = (numbers_are 0 0 bs are n b at).1 in omega (arith, is))

  -- a later block has no fewer before it
  pub grows : (bs : List (BlockState K)) (m n : ℕ) → m ≤ n → rows_up_to bs m ≤ rows_up_to bs n
  grows bs m n less =
      let parts = ap (λ (cs : List (BlockState K)). length (entries_in {K = K} cs)) (take_parts bs m n less)
      ∙ ap (λ es. length es) (entries_both (take m bs) (take (n - m) (drop m bs)))
      ∙ length-append (entries_in {K = K} (take m bs)) (entries_in {K = K} (take (n - m) (drop m bs))) in
      omega (arith, parts)

  -- So blocks are parted by how many rows stand before them.
  pub numbers_parted : (bs : List (BlockState K)) → AreNumbered {K = K} 0 0 bs → (index : ℕ)
      → IsPartitionedBy (λ (b : BlockState K). leb b.rows_before index) bs
  numbers_parted bs are index = λ i j d le lt test.
      let first = before_is bs are i (get_or bs i d) (slice_get-get_or bs i d (omega (arith, le, lt))) in
      let second = before_is bs are j (get_or bs j d) (slice_get-get_or bs j d lt) in
      let less = leb-true (get_or bs j d).rows_before index test in
      let grow = grows bs i j le in
      le-leb (get_or bs i d).rows_before index (omega (arith, first, second, less, grow))

  pub begin_up_to : (bs : List (BlockState K)) → AreNumbered {K = K} 0 0 bs → (index count : ℕ) → count ≤ length bs
      → IsPartitionPoint (λ (b : BlockState K). leb b.rows_before index ≡ true)
      (λ (b : BlockState K). leb b.rows_before index ≡ false) bs count → BeginUpTo {K = K} bs index count
  begin_up_to bs are index count few point = record {
    few = few;
    begins = λ some.
        let it = get_there bs (count - 1) (omega (arith, few, some)) in
        let at = slice_get-get_or bs (count - 1) it.0 (omega (arith, few, some)) in
        let passes = leb-true (get_or bs (count - 1) it.0).rows_before index
        (point.0 (count - 1) it.0 (omega arith) (omega (arith, some))) in
        let before = before_is bs are (count - 1) (get_or bs (count - 1) it.0) at in
        omega (arith, passes, before);
    rest = λ less.
        let it = get_there bs count less in
        let at = slice_get-get_or bs count it.0 less in
        let fails = leb-false (get_or bs count it.0).rows_before index (point.1 count it.0 (omega arith) less) in
        let before = before_is bs are count (get_or bs count it.0) at in
        omega (arith, fails, before);
  }

  -- where there is a row, there is a block for it
  pub some_begin : (bs : List (BlockState K)) (index count : ℕ) → BeginUpTo {K = K} bs index count
      → index < length (entries_in {K = K} bs) → 0 < count
  some_begin [] index count up_to less = absurd (omega (arith, less))
  some_begin (b ∷ bs) index zero up_to less = absurd (let rest = up_to.rest (omega arith) in omega (arith, rest))
  some_begin (b ∷ bs) index (suc count) up_to less = omega arith

  -- and where there is none of the blocks, there is no row
  pub none_begin : (bs : List (BlockState K)) (index : ℕ) → BeginUpTo {K = K} bs index 0 → bs ≡ []
  none_begin [] index up_to = refl
  none_begin (b ∷ bs) index up_to = absurd (let rest = up_to.rest (omega arith) in omega (arith, rest))

  module _ (bs : List (BlockState K)) (number : ℕ) (b : BlockState K) (there : slice_get bs number ≡ Some b) where
    abbrev before : List (Entry K)
    before = entries_in {K = K} (take number bs)

    abbrev later : List (Entry K)
    later = entries_in {K = K} (drop (suc number) bs)

    -- the entries before a block, its own, and those behind it
    pub entries_at : entries_in {K = K} bs ≡ before ++ (b.entries ++ later)
    entries_at =
        entries_parts number bs
        ∙ ap (λ (cs : List (BlockState K)). before ++ entries_in {K = K} cs) (drop_at_item bs number b there)

    pub next_up_to : rows_up_to bs (suc number) ≡ length before + length b.entries
    next_up_to =
        ap (λ (cs : List (BlockState K)). length (entries_in {K = K} cs)) (take_at_item bs number b there)
        ∙ ap (λ es. length es) (entries_both (take number bs) (b ∷ []))
        ∙ length-append before (b.entries ++ []) ∙ ap (λ es. length before + length es) (append-nil b.entries)

    pub long : length (entries_in {K = K} bs) ≡ length before + (length b.entries + length later)
    long =
        ap (λ es. length es) entries_at ∙ length-append before (b.entries ++ later)
        ∙ ap (λ n. length before + n) (length-append b.entries later)

    -- Its rows stand in order where all do.
    pub block_ordered : AreInOrder (rows_of {K = K} (entries_in {K = K} bs)) → AreInOrder (rows_of {K = K} b.entries)
    block_ordered order =
        let all : rows_of {K = K} (entries_in {K = K} bs)
        ≡ rows_of {K = K} before ++ (rows_of {K = K} b.entries ++ rows_of {K = K} later) =
        ap (rows_of {K = K}) entries_at ∙ rows_joined {K = K} before (b.entries ++ later)
        ∙ ap (λ rows. rows_of {K = K} before ++ rows) (rows_joined {K = K} b.entries later) in
        order_first (rows_of {K = K} b.entries) (rows_of {K = K} later)
        (order_rest (rows_of {K = K} before) (rows_of {K = K} b.entries ++ rows_of {K = K} later)
        (subst AreInOrder all order))

    -- The row with an index stands in the last block that begins at it or before it.
    module _ (index : ℕ) (up_to : BeginUpTo {K = K} bs index (suc number)) where
      begins : length before ≤ index
      begins =
          subst (λ n. rows_up_to bs n ≤ index) (let same : suc number - 1 ≡ number = omega arith in same)
          (up_to.begins (omega arith))

      -- it is the last one, or the next one begins behind the row
      ends : (length later ≡ 0) ⊎ (index < length before + length b.entries)
      ends = by_next (drop (suc number) bs) refl
        where
          by_next : (cs : List (BlockState K)) → drop (suc number) bs ≡ cs
              → (length later ≡ 0) ⊎ (index < length before + length b.entries)
          by_next [] is = inl (ap (λ (ds : List (BlockState K)). length (entries_in {K = K} ds)) is)
          by_next (c ∷ cs) is =
              let next : slice_get (drop (suc number) bs) 0 ≡ Some c = ap (λ ds. slice_get ds 0) is in
              let within = get_within bs (suc number + 0) c (sym (get_dropped (suc number) 0 bs) ∙ next) in
              let rest = up_to.rest (omega (arith, within)) in
              let is_next = next_up_to in
              inr (omega (arith, rest, is_next))

      few : index ≤ length (entries_in {K = K} bs) → index - length before ≤ length b.entries
      few small = by_ends ends
        where
          by_ends : (length later ≡ 0) ⊎ (index < length before + length b.entries)
              → index - length before ≤ length b.entries
          by_ends (inl none) = (let all = long in omega (arith, none, all, small))
          by_ends (inr less) = omega (arith, less)

      less : index < length (entries_in {K = K} bs) → index - length before < length b.entries
      less small = by_ends ends
        where
          by_ends : (length later ≡ 0) ⊎ (index < length before + length b.entries)
              → index - length before < length b.entries
          by_ends (inl none) = (let all = long in let first = begins in omega (arith, none, all, small, first))
          by_ends (inr under) = (let first = begins in omega (arith, under, first))

      place : length before + (index - length before) ≡ index
      place = (let first = begins in omega (arith, first))

      entry : (e : Entry K) → slice_get b.entries (index - length before) ≡ Some e
          → slice_get (entries_in {K = K} bs) index ≡ Some e
      entry e at =
          let offset = index - length before in
          ap (λ es. slice_get es index) entries_at
          ∙ ap (slice_get (before ++ (b.entries ++ later))) (sym place)
          ∙ get_right before (b.entries ++ later) offset
          ∙ get_left b.entries later offset (get_within b.entries offset e at) ∙ at

      taken : index ≤ length (entries_in {K = K} bs)
          → take index (entries_in {K = K} bs) ≡ before ++ take (index - length before) b.entries
      taken small =
          let offset = index - length before in
          ap (λ es. take index es) entries_at
          ∙ ap (λ n. take n (before ++ (b.entries ++ later))) (sym place)
          ∙ take_past before (b.entries ++ later) offset
          ∙ ap (λ es. before ++ es) (take-append-le offset b.entries later (few small))

  -- What is known of the last block that begins at a row or before it.
  pub record IsInBlock (bs : List (BlockState K)) (index number : ℕ) (b : BlockState K) : Type 0 where
    pub before_is : b.rows_before ≡ rows_up_to bs number
    pub tokens_is : b.tokens_before ≡ tokens_up_to bs number
    pub from : b.rows_before ≤ index
    pub few : index ≤ length (entries_in {K = K} bs) → index - b.rows_before ≤ length b.entries
    pub less : index < length (entries_in {K = K} bs) → index - b.rows_before < length b.entries
    pub entry : (e : Entry K) → slice_get b.entries (index - b.rows_before) ≡ Some e
        → slice_get (entries_in {K = K} bs) index ≡ Some e
    pub taken : index ≤ length (entries_in {K = K} bs)
        → take index (entries_in {K = K} bs)
        ≡ entries_in {K = K} (take number bs) ++ take (index - b.rows_before) b.entries

  pub in_block : (bs : List (BlockState K)) → AreNumbered {K = K} 0 0 bs → (index count number : ℕ) (b : BlockState K)
      → BeginUpTo {K = K} bs index count → 0 < count → number ≡ count - 1 → slice_get bs number ≡ Some b
      → IsInBlock bs index number b
  in_block bs are index count number b up_to some number_is there =
      let next : count ≡ suc number = omega (arith, some, number_is) in
      let until : BeginUpTo {K = K} bs index (suc number) = subst (BeginUpTo {K = K} bs index) next up_to in
      let same = before_is bs are number b there in
      record {
        before_is = same;
        tokens_is = tokens_before_is bs are number b there;
        from = (let first = begins bs number b there index until in omega (arith, first, same));
        few = λ small.
            subst (λ n. index - n ≤ length b.entries) (sym same) (few bs number b there index until small);
        less = λ small.
            subst (λ n. index - n < length b.entries) (sym same) (less bs number b there index until small);
        entry = λ e at.
            entry bs number b there index until e (ap (λ n. slice_get b.entries (index - n)) (sym same) ∙ at);
        taken = λ small.
            taken bs number b there index until small
            ∙ ap (λ n. entries_in {K = K} (take number bs) ++ take (index - n) b.entries) (sym same);
      }
