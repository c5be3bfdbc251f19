-- Blocks of rows: where rows start, blocks that are numbered, and rows that are put between.
use Rattle.std.proofs.Common.{◌≡◌, ℕ, zero, suc, ◌+◌, ◌-◌, ◌<◌, ◌≤◌, Bool, true, false, leb, List, [], ◌∷◌, ◌++◌, length, map}
use Rattle.std.proofs.Common.{take, drop, set, refl, sym, ◌∙◌, ap, subst, arith, append_assoc, append-nil, get_or, length-append, Some}
use Rattle.std.specs.List.{AllByRecursion}
use Rattle.std.specs.List.Sorted.{IsPartitionPoint, IsPartitionedBy}
use Rattle.std.specs.Option.{option_map_or}
use Rattle.std.specs.Prelude.{slice_get}
use Rattle.std.proofs.lemmas.Bool.{le-leb, leb-false, leb-true}
use Rattle.std.proofs.lemmas.List.{drop_all, drop_at, drop-drop, drop_more, get_or_at, length-drop, length-map, length-take}
use Rattle.std.proofs.lemmas.List.{map-append, set_at}
use Rattle.std.proofs.lemmas.List.{take_all, take-append-drop, take_at, take_more}
use Rattle.std.proofs.lemmas.Option.{slice_get-get_or}
use Rattle.js_document.specs.declared.gap.Entry.{Entry}
use Rattle.js_document.specs.Blocks.{BeginUpTo, BlockState, HasRows, MovesEntry, entries_in, numbered, starts_by}
use Rattle.js_document.specs.Gap.{AreInOrder, count_tokens, rows_of, shifted_entry}
use Rattle.js_document.specs.LiveTokens.{StartUpTo}
use Rattle.js_document.proofs.BlockLemmas.{entries_at, entries_both, entries_parts, grows, long, next_up_to}
use Rattle.js_document.proofs.BlockLemmas.{rows_up_to, tokens_up_to}
use Rattle.js_document.proofs.GapLemmas.{count_both, count_few}
use Rattle.js_document.proofs.ListLemmas.{all_dropped, each_there, get_dropped, get_left, get_mapped, get_right, get_there}
use Rattle.js_document.proofs.ListLemmas.{get_within, put_mapped, take_at_item, take_parts}
use Rattle.js_document.proofs.RowPlaces.{rises}

module _ {K : Type 0} (bs : List (BlockState K)) (some : AllByRecursion (HasRows {K = K}) bs)
    (order : AreInOrder (rows_of {K = K} (entries_in {K = K} bs))) (place : ℕ) where
  abbrev all : List (Entry K)
  all = entries_in {K = K} bs

  -- an entry of a block, among all
  entry_of_block : (number : ℕ) (b : BlockState K) → slice_get bs number ≡ Some b → (index : ℕ)
      → rows_up_to {K = K} bs number ≤ index → index < rows_up_to {K = K} bs number + length b.entries
      → slice_get all index ≡ slice_get b.entries (index - rows_up_to {K = K} bs number)
  entry_of_block number b there index from less =
      let before = entries_in {K = K} (take number bs) in
      let later = entries_in {K = K} (drop (suc number) bs) in
      let offset = index - length before in
      let at : length before + offset ≡ index = omega (arith, from) in
      ap (λ es. slice_get es index) (entries_at {K = K} bs number b there)
      ∙ ap (slice_get (before ++ (b.entries ++ later))) (sym at) ∙ get_right before (b.entries ++ later) offset
      ∙ get_left b.entries later offset (omega (arith, from, less))

  -- the first entry of a block
  first_at : (number : ℕ) (b : BlockState K) → slice_get bs number ≡ Some b
      → (e : Entry K) × (slice_get b.entries 0 ≡ Some e) × (slice_get all (rows_up_to {K = K} bs number) ≡ Some e)
  first_at number b there =
      let has = each_there (HasRows {K = K}) bs number b some there in
      let it = get_there b.entries 0 has in
      let none : rows_up_to {K = K} bs number - rows_up_to {K = K} bs number ≡ 0 = omega arith in (
        it.0,
        it.1,
        entry_of_block number b there (rows_up_to {K = K} bs number) (omega arith) (omega (arith, has))
            ∙ ap (slice_get b.entries) none ∙ it.1,
      )

  starts_is : (b : BlockState K) (e : Entry K) → slice_get b.entries 0 ≡ Some e
      → starts_by {K = K} place b ≡ leb e.row.token.start place
  starts_is b e at = ap (λ o. option_map_or (λ (x : Entry K). leb x.row.token.start place) o false) at

  -- So blocks are parted by where their first entries start.
  pub starts_parted : IsPartitionedBy (starts_by {K = K} place) bs
  starts_parted = λ i j d le lt test.
      let first = first_at i (get_or bs i d) (slice_get-get_or bs i d (omega (arith, le, lt))) in
      let second = first_at j (get_or bs j d) (slice_get-get_or bs j d lt) in
      let less = rises {K = K} all order (rows_up_to {K = K} bs i) (rows_up_to {K = K} bs j) first.0 second.0 first.2 second.2
      (grows {K = K} bs i j le) in
      let starts = leb-true second.0.row.token.start place (sym (starts_is (get_or bs j d) second.0 second.1) ∙ test) in
      starts_is (get_or bs i d) first.0 first.1
      ∙ le-leb first.0.row.token.start place (omega (arith, less, starts))

  module _ (count : ℕ) (few : count ≤ length bs)
      (point : IsPartitionPoint (λ (b : BlockState K). starts_by {K = K} place b ≡ true)
      (λ (b : BlockState K). starts_by {K = K} place b ≡ false) bs count) where
    -- the entries of blocks behind them start behind the place
    behind : count < length bs → (index : ℕ) (entry : Entry K) → rows_up_to {K = K} bs count ≤ index
        → slice_get all index ≡ Some entry → place < entry.row.token.start
    behind less index entry from at =
        let it = get_there bs count less in
        let b = get_or bs count it.0 in
        let first = first_at count b (slice_get-get_or bs count it.0 less) in
        let fails = leb-false first.0.row.token.start place
        (sym (starts_is b first.0 first.1) ∙ point.1 count it.0 (omega arith) less) in
        let later = rises {K = K} all order (rows_up_to {K = K} bs count) index first.0 entry first.2 at from in
        omega (arith, fails, later)

    -- No block begins at the place or before it.
    pub starts_none : count ≡ 0 → StartUpTo {K = K} place all 0
    starts_none none = record {
      few = omega arith;
      first = λ index entry less at. absurd (omega (arith, less));
      rest = λ index entry from at.
          by_blocks (leb (suc count) (length bs)) refl index entry at;
    }
      where
        by_blocks : (flag : Bool) → leb (suc count) (length bs) ≡ flag → (index : ℕ) (entry : Entry K)
            → slice_get all index ≡ Some entry → place < entry.row.token.start
        by_blocks true is index entry at =
            let less = leb-true (suc count) (length bs) is in
            let first : rows_up_to {K = K} bs count ≡ 0 = ap (rows_up_to {K = K} bs) none in
            behind (omega (arith, less)) index entry (omega (arith, first)) at
        by_blocks false is index entry at =
            let past = leb-false (suc count) (length bs) is in
            let nothing : length (entries_in {K = K} (drop 0 bs)) ≡ 0 =
            ap (λ (cs : List (BlockState K)). length (entries_in {K = K} cs)) (drop_all 0 bs (omega (arith, past, none))) in
            let within = get_within all index entry at in
            absurd (omega (arith, nothing, within))

    -- One does: its rows are those that start so far, behind those before it.
    module _ (number : ℕ) (b : BlockState K) (there : slice_get bs number ≡ Some b) (one : 1 ≤ count)
        (number_is : number ≡ count - 1) (inner : ℕ) (up_to : StartUpTo {K = K} place b.entries inner) where
      abbrev start : ℕ
      start = rows_up_to {K = K} bs number

      starts_first : (index : ℕ) (entry : Entry K) → index < start + inner → slice_get all index ≡ Some entry
          → (flag : Bool) → leb start index ≡ flag → entry.row.token.start ≤ place
      starts_first index entry less at true is =
          let from = leb-true start index is in
          let short = up_to.few in
          up_to.first (index - start) entry (omega (arith, less, from))
          (sym (entry_of_block number b there index from (omega (arith, less, short))) ∙ at)
      starts_first index entry less at false is =
          let before = leb-false start index is in
          let same : get_or bs number b ≡ b =
          (let both : Some (get_or bs number b) ≡ Some b =
          sym (slice_get-get_or bs number b (get_within bs number b there)) ∙ there in cc) in
          let first = first_at number b there in
          let passes = leb-true first.0.row.token.start place
          (sym (starts_is b first.0 first.1) ∙ ap (starts_by {K = K} place) (sym same)
          ∙ point.0 number b (omega arith) (omega (arith, one, number_is))) in
          let later = rises {K = K} all order index start entry first.0 at first.2 (omega (arith, before)) in
          omega (arith, later, passes)

      starts_rest : (index : ℕ) (entry : Entry K) → start + inner ≤ index → slice_get all index ≡ Some entry
          → (flag : Bool) → leb (start + length b.entries) index ≡ flag → place < entry.row.token.start
      starts_rest index entry from at false is =
          let less = leb-false (start + length b.entries) index is in
          up_to.rest (index - start) entry (omega (arith, from))
          (sym (entry_of_block number b there index (omega (arith, from)) (omega (arith, less))) ∙ at)
      starts_rest index entry from at true is = by_next (leb (suc count) (length bs)) refl
        where
          past : start + length b.entries ≤ index
          past = leb-true (start + length b.entries) index is

          next : suc number ≡ count
          next = omega (arith, one, number_is)

          by_next : (flag : Bool) → leb (suc count) (length bs) ≡ flag → place < entry.row.token.start
          by_next true more =
              let less = leb-true (suc count) (length bs) more in
              let rows : rows_up_to {K = K} bs count ≡ start + length b.entries =
              ap (rows_up_to {K = K} bs) (sym next) ∙ next_up_to {K = K} bs number b there in
              behind (omega (arith, less)) index entry (omega (arith, rows, past)) at
          by_next false more =
              let none = leb-false (suc count) (length bs) more in
              let later : length (entries_in {K = K} (drop (suc number) bs)) ≡ 0 =
              ap (λ (cs : List (BlockState K)). length (entries_in {K = K} cs))
              (drop_all (suc number) bs (omega (arith, none, next))) in
              let whole = long {K = K} bs number b there in
              let within = get_within all index entry at in
              absurd (omega (arith, later, whole, within, past))

      pub starts_some : StartUpTo {K = K} place all (start + inner)
      starts_some = record {
        few = (let short = up_to.few in let whole = long {K = K} bs number b there in omega (arith, short, whole));
        first = λ index entry less at. starts_first index entry less at (leb start index) refl;
        rest = λ index entry from at. starts_rest index entry from at (leb (start + length b.entries) index) refl;
      }

-- What a block's rows start up to, by the places that are held.
module _ {K : Type 0} (from to : ℕ) (es : List (Entry K)) (moves : AllByRecursion (MovesEntry {K = K} from to) es)
    (order : AreInOrder (rows_of {K = K} (map (shifted_entry {K = K} from to) es))) where
  held_from : (n : ℕ) (e : Entry K) → slice_get es n ≡ Some e → from ≤ e.row.token.start
  held_from n e at = (each_there (MovesEntry {K = K} from to) es n e moves at).places.start.behind

  pub held_parted : (bound : ℕ) → IsPartitionedBy (λ (e : Entry K). leb e.row.token.start bound) es
  held_parted bound = λ i j d le lt test.
      let at_i = slice_get-get_or es i d (omega (arith, le, lt)) in
      let at_j = slice_get-get_or es j d lt in
      let f = shifted_entry {K = K} from to in
      let less = rises {K = K} (map f es) order i j (f (get_or es i d)) (f (get_or es j d))
      (put_mapped f es i (get_or es i d) at_i) (put_mapped f es j (get_or es j d) at_j) le in
      let first = held_from i (get_or es i d) at_i in
      let second = held_from j (get_or es j d) at_j in
      let starts = leb-true (get_or es j d).row.token.start bound test in
      le-leb (get_or es i d).row.token.start bound (omega (arith, less, first, second, starts))

  pub held_up_to : (place bound count : ℕ) → to ≤ place → bound ≡ place - to + from → StartUpTo {K = K} bound es count
      → StartUpTo {K = K} place (map (shifted_entry {K = K} from to) es) count
  held_up_to place bound count above bound_is up_to = record {
    few = (let short = up_to.few in let same = length-map es (shifted_entry {K = K} from to) in omega (arith, short, same));
    first = λ index entry less at.
        let it = get_mapped (shifted_entry {K = K} from to) es index entry at in
        let starts = up_to.first index it.0 less it.1 in
        let behind = held_from index it.0 it.1 in
        let same = ap (λ (e : Entry K). e.row.token.start) it.2 in
        omega (arith, starts, behind, same, above, bound_is);
    rest = λ index entry past at.
        let it = get_mapped (shifted_entry {K = K} from to) es index entry at in
        let starts = up_to.rest index it.0 past it.1 in
        let behind = held_from index it.0 it.1 in
        let same = ap (λ (e : Entry K). e.row.token.start) it.2 in
        omega (arith, starts, behind, same, above, bound_is);
  }

  pub held_above : (place : ℕ) → place < to → StartUpTo {K = K} place (map (shifted_entry {K = K} from to) es) 0
  held_above place less = record {
    few = omega arith;
    first = λ index entry none at. absurd (omega (arith, none));
    rest = λ index entry past at.
        let it = get_mapped (shifted_entry {K = K} from to) es index entry at in
        let same = ap (λ (e : Entry K). e.row.token.start) it.2 in
        omega (arith, same, less);
  }

module _ {K : Type 0} where
  -- One block more is numbered.
  numbered_push : (rows tokens r t : ℕ) (xs : List (BlockState K)) (x : BlockState K)
      → r ≡ rows + length (entries_in {K = K} xs) → t ≡ tokens + count_tokens (rows_of {K = K} (entries_in {K = K} xs))
      → numbered {K = K} rows tokens (xs ++ x ∷ [])
      ≡ numbered {K = K} rows tokens xs ++ record x { rows_before = r; tokens_before = t } ∷ []
  numbered_push rows tokens r t [] x r_is t_is =
      let first : rows ≡ r = omega (arith, r_is) in
      let second : tokens ≡ t = omega (arith, t_is) in
      λ j. record x { rows_before = first j; tokens_before = second j } ∷ []
  numbered_push rows tokens r t (y ∷ ys) x r_is t_is =
      let long = length-append y.entries (entries_in {K = K} ys) in
      let count = count_both {K = K} y.entries (entries_in {K = K} ys) in
      ap (λ l. record y { rows_before = rows; tokens_before = tokens } ∷ l)
      (numbered_push (rows + length y.entries) (tokens + count_tokens (rows_of {K = K} y.entries)) r t ys x
      (omega (arith, r_is, long)) (omega (arith, t_is, count)))

  length_numbered : (rows tokens : ℕ) (xs : List (BlockState K)) → length (numbered {K = K} rows tokens xs) ≡ length xs
  length_numbered rows tokens [] = refl
  length_numbered rows tokens (x ∷ xs) =
      ap suc (length_numbered (rows + length x.entries) (tokens + count_tokens (rows_of {K = K} x.entries)) xs)

  pub up_to_few : (xs : List (BlockState K)) (n : ℕ) → rows_up_to {K = K} xs n ≤ length (entries_in {K = K} xs)
  up_to_few xs n =
      let parts = ap (λ es. length es) (entries_parts {K = K} n xs)
      ∙ length-append (entries_in {K = K} (take n xs)) (entries_in {K = K} (drop n xs)) in
      omega (arith, parts)

  pub tokens_few : (xs : List (BlockState K)) (n : ℕ) → tokens_up_to {K = K} xs n ≤ length (entries_in {K = K} xs)
  tokens_few xs n =
      let few = count_few {K = K} (entries_in {K = K} (take n xs)) in
      let all = up_to_few xs n in
      omega (arith, few, all)

  module _ (xs ys : List (BlockState K)) (i : ℕ) (x : BlockState K) (rows tokens : ℕ) (lt : i < length xs)
      (so_far : ys ≡ numbered {K = K} 0 0 (take i xs) ++ drop i xs) (is : x ≡ get_or ys i x)
      (rows_is : rows ≡ rows_up_to {K = K} xs i) (tokens_is : tokens ≡ tokens_up_to {K = K} xs i) where
    abbrev front : List (BlockState K)
    front = numbered {K = K} 0 0 (take i xs)

    front_long : length front ≡ i
    front_long = length_numbered 0 0 (take i xs) ∙ (let short = length-take i xs in omega (arith, short, lt))

    parts : ys ≡ front ++ get_or xs i x ∷ drop (i + 1) xs
    parts = so_far ∙ ap (λ l. front ++ l) (drop_more xs i x lt)

    read : x ≡ get_or xs i x
    read = is ∙ ap (λ l. get_or l i x) parts ∙ get_or_at front (get_or xs i x) (drop (i + 1) xs) x i front_long

    abbrev told : BlockState K → BlockState K
    told b = record b { rows_before = rows; tokens_before = tokens }

    pub number_more : set ys i (told x) ≡ numbered {K = K} 0 0 (take (i + 1) xs) ++ drop (i + 1) xs
    number_more =
        let push = ap (numbered {K = K} 0 0) (take_more xs i x lt)
        ∙ numbered_push 0 0 rows tokens (take i xs) (get_or xs i x) (omega (arith, rows_is)) (omega (arith, tokens_is)) in
        ap (λ l. set l i (told x)) parts ∙ set_at front (get_or xs i x) (drop (i + 1) xs) (told x) i front_long
        ∙ sym (append_assoc front (told x ∷ []) (drop (i + 1) xs))
        ∙ ap (λ l. l ++ drop (i + 1) xs) (ap (λ (b : BlockState K). front ++ told b ∷ []) read ∙ sym push)

    entries_more : entries_in {K = K} (take (i + 1) xs) ≡ entries_in {K = K} (take i xs) ++ x.entries
    entries_more =
        ap (entries_in {K = K}) (take_more xs i x lt) ∙ entries_both {K = K} (take i xs) (get_or xs i x ∷ [])
        ∙ ap (λ es. entries_in {K = K} (take i xs) ++ es) (append-nil (get_or xs i x).entries)
        ∙ ap (λ (b : BlockState K). entries_in {K = K} (take i xs) ++ b.entries) (sym read)

    pub rows_more : rows + length x.entries ≡ rows_up_to {K = K} xs (i + 1)
    rows_more =
        let long = ap (λ es. length es) entries_more ∙ length-append (entries_in {K = K} (take i xs)) x.entries in
        omega (arith, long, rows_is)

    pub tokens_more : tokens + count_tokens (rows_of {K = K} x.entries) ≡ tokens_up_to {K = K} xs (i + 1)
    tokens_more =
        let count = ap (λ es. count_tokens (rows_of {K = K} es)) entries_more
        ∙ count_both {K = K} (entries_in {K = K} (take i xs)) x.entries in
        omega (arith, count, tokens_is)

-- The blocks that rows from one index up to another stand in.
module _ {K : Type 0} (bs : List (BlockState K)) (start end first to : ℕ) (ordered : start ≤ end)
    (inside : end ≤ length (entries_in {K = K} bs)) (up_start : BeginUpTo {K = K} bs start first)
    (up_end : BeginUpTo {K = K} bs end to) where
  abbrev rows : List (Entry K)
  rows = entries_in {K = K} bs

  abbrev from : ℕ
  from = first - 1

  abbrev low : ℕ
  low = rows_up_to {K = K} bs from

  abbrev high : ℕ
  high = rows_up_to {K = K} bs to

  pub low_few : low ≤ start
  low_few = by_first first refl
    where
      by_first : (n : ℕ) → first ≡ n → low ≤ start
      by_first zero is =
          let none : low ≡ 0 = ap (λ n. rows_up_to {K = K} bs (n - 1)) is in
          omega (arith, none)
      by_first (suc n) is = up_start.begins (omega (arith, is))

  pub high_some : end ≤ high
  high_some = by_last (leb (suc to) (length bs)) refl
    where
      by_last : (flag : Bool) → leb (suc to) (length bs) ≡ flag → end ≤ high
      by_last true is =
          let less = leb-true (suc to) (length bs) is in
          let rest = up_end.rest (omega (arith, less)) in
          omega (arith, rest)
      by_last false is =
          let past = leb-false (suc to) (length bs) is in
          let whole = ap (λ (cs : List (BlockState K)). length (entries_in {K = K} cs))
          (take_all to bs (omega (arith, past))) in
          omega (arith, whole, inside)

  pub high_few : high ≤ length rows
  high_few = up_to_few {K = K} bs to

  pub from_few : from ≤ to
  from_few = by_order (leb from to) refl
    where
      by_order : (flag : Bool) → leb from to ≡ flag → from ≤ to
      by_order true is = leb-true from to is
      by_order false is =
          let past = leb-false from to is in
          let few = up_start.few in
          let rest = up_end.rest (omega (arith, past, few)) in
          let grow = grows {K = K} bs to from (omega (arith, past)) in
          let before = low_few in
          absurd (omega (arith, rest, grow, before, ordered))

-- Rows that are put in the place of others, from blocks that begin before them up to blocks that begin behind them.
module _ {K : Type 0} (bs : List (BlockState K)) (start end from to : ℕ) (ordered : start ≤ end)
    (inside : end ≤ length (entries_in {K = K} bs)) (starts : rows_up_to {K = K} bs from ≤ start)
    (ends : end ≤ rows_up_to {K = K} bs to) where
  abbrev all_rows : List (Entry K)
  all_rows = entries_in {K = K} bs

  abbrev low_row : ℕ
  low_row = rows_up_to {K = K} bs from

  abbrev high_row : ℕ
  high_row = rows_up_to {K = K} bs to

  low_rows : take low_row all_rows ≡ entries_in {K = K} (take from bs)
  low_rows =
      ap (λ es. take low_row es) (entries_parts {K = K} from bs)
      ∙ take_at (entries_in {K = K} (take from bs)) (entries_in {K = K} (drop from bs)) low_row refl

  high_rows : drop high_row all_rows ≡ entries_in {K = K} (drop to bs)
  high_rows =
      ap (λ es. drop high_row es) (entries_parts {K = K} to bs)
      ∙ drop_at (entries_in {K = K} (take to bs)) (entries_in {K = K} (drop to bs)) high_row refl

  pub high_long : length (entries_in {K = K} (drop to bs)) ≡ length all_rows - high_row
  high_long =
      let parts = ap (λ es. length es) (entries_parts {K = K} to bs)
      ∙ length-append (entries_in {K = K} (take to bs)) (entries_in {K = K} (drop to bs)) in
      omega (arith, parts)

  -- what stands behind may be moved, as what stands behind the rows that go
  pub behind_moves : (P : Entry K → Type 0) → AllByRecursion P (drop end all_rows)
      → AllByRecursion P (entries_in {K = K} (drop to bs))
  behind_moves P all =
      let place : end + (high_row - end) ≡ high_row = omega (arith, ends) in
      subst (AllByRecursion P) (drop-drop (high_row - end) end all_rows ∙ ap (λ n. drop n all_rows) place ∙ high_rows)
      (all_dropped P (high_row - end) (drop end all_rows) all)

  module _ (shift : Entry K → Entry K) (read between : List (Entry K))
      (between_is : between ≡ take (start - low_row) (drop low_row all_rows) ++ read ++ map shift (take (high_row - end) (drop end all_rows)))
    where
      pub between_long : length between ≡ (start - low_row) + length read + (high_row - end)
      between_long =
          let all = up_to_few {K = K} bs to in
          let first = length-take (start - low_row) (drop low_row all_rows) in
          let first_all = length-drop low_row all_rows in
          let last = length-take (high_row - end) (drop end all_rows) in
          let last_all = length-drop end all_rows in
          let moved = length-map (take (high_row - end) (drop end all_rows)) shift in
          let both = ap (λ es. length es) between_is
          ∙ length-append (take (start - low_row) (drop low_row all_rows) ++ read) (map shift (take (high_row - end) (drop end all_rows))) in
          let front = length-append (take (start - low_row) (drop low_row all_rows)) read in
          omega (arith, starts, ends, all, first, first_all, last, last_all, moved, both, front, ordered, inside)

      -- The blocks have the rows before those that go, those that come, and those behind, moved.
      pub replaced : entries_in {K = K} (take from bs) ++ between ++ map shift (entries_in {K = K} (drop to bs))
          ≡ take start all_rows ++ read ++ map shift (drop end all_rows)
      replaced =
          let a = take low_row all_rows in
          let b = take (start - low_row) (drop low_row all_rows) in
          let c = map shift (take (high_row - end) (drop end all_rows)) in
          let d = map shift (drop high_row all_rows) in
          let place : end + (high_row - end) ≡ high_row = omega (arith, ends) in
          let front : a ++ b ≡ take start all_rows = sym (take_parts all_rows low_row start starts) in
          let rest : take (high_row - end) (drop end all_rows) ++ drop high_row all_rows ≡ drop end all_rows =
          ap (λ es. take (high_row - end) (drop end all_rows) ++ es)
          (ap (λ n. drop n all_rows) (sym place) ∙ sym (drop-drop (high_row - end) end all_rows))
          ∙ take-append-drop (high_row - end) (drop end all_rows) in
          let behind : c ++ d ≡ map shift (drop end all_rows) =
          sym (map-append shift (take (high_row - end) (drop end all_rows)) (drop high_row all_rows)) ∙ ap (map shift) rest in
          ap (λ es. es ++ between ++ map shift (entries_in {K = K} (drop to bs))) (sym low_rows)
          ∙ ap (λ es. a ++ between ++ map shift es) (sym high_rows)
          ∙ ap (λ es. a ++ es ++ d) between_is
          ∙ ap (λ es. es ++ d) (sym (append_assoc a (b ++ read) c) ∙ ap (λ es. es ++ c) (sym (append_assoc a b read)))
          ∙ append_assoc (a ++ b ++ read) c d
          ∙ ap (λ es. a ++ b ++ read ++ es) behind
          ∙ ap (λ es. es ++ read ++ map shift (drop end all_rows)) front

module _ {K : Type 0} where
  -- Rows that become a block are among those of the blocks.
  pub closed : (old new : List (BlockState K)) (b : BlockState K) (es left : List (Entry K)) → new ≡ old ++ b ∷ []
      → b.entries ≡ es → left ≡ [] → entries_in {K = K} new ++ left ≡ entries_in {K = K} old ++ es
  closed old new b es left pushed is none =
      ap (λ l. entries_in {K = K} new ++ l) none ∙ append-nil (entries_in {K = K} new)
      ∙ ap (entries_in {K = K}) pushed ∙ entries_both {K = K} old (b ∷ [])
      ∙ ap (λ l. entries_in {K = K} old ++ l) (append-nil b.entries ∙ is)

  -- One copy more is added.
  pub copied_more : (f : Entry K → Entry K) (all : List (Entry K)) (start index : ℕ) (e : Entry K)
      (first now later : List (Entry K)) → start ≤ index → slice_get all index ≡ Some e
      → now ≡ first ++ map f (take (index - start) (drop start all)) → later ≡ now ++ f e ∷ []
      → later ≡ first ++ map f (take (index + 1 - start) (drop start all))
  copied_more f all start index e first now later from at so_far more =
      let n = index - start in
      let place : start + n ≡ index = omega (arith, from) in
      let next : suc n ≡ index + 1 - start = omega (arith, from) in
      let here = take_at_item (drop start all) n e (get_dropped start n all ∙ ap (slice_get all) place ∙ at) in
      more ∙ ap (λ l. l ++ f e ∷ []) so_far ∙ append_assoc first (map f (take n (drop start all))) (f e ∷ [])
      ∙ ap (λ l. first ++ l)
      (sym (map-append f (take n (drop start all)) (e ∷ [])) ∙ ap (map f) (sym here)
      ∙ ap (λ k. map f (take k (drop start all))) next)
