-- Rows with a gap between two of them, and what is counted of rows.
use Rattle.std.proofs.Common.{◌≡◌, ℕ, ◌+◌, ◌-◌, ◌<◌, ◌≤◌, List, [], ◌∷◌, ◌++◌, length, map, take, drop, refl}
use Rattle.std.proofs.Common.{Bool, true, false, sym, ◌∙◌, ap, subst, arith, append-nil, get_or, zero-add, Some, None}
use Rattle.std.specs.List.{AllByRecursion}
use Rattle.std.specs.Prelude.{◌^◌, reverse, slice_get, if◌then◌else◌}
use Rattle.std.proofs.lemmas.List.{drop-drop, drop-map, length-append, length-drop, length-map, length-reverse, length-take-le}
use Rattle.std.proofs.lemmas.List.{reverse-reverse, take-append-drop, take_more}
use Rattle.js_session.specs.Shifted.{shifted}
use Rattle.js_session.proofs.RowsWithin.{row_weaker}
use Rattle.js_document.specs.declared.gap.Entry.{Entry}
use Rattle.js_document.specs.Blocks.{MovesEntry, MovesPlace}
use Rattle.js_document.specs.Gap.{GapState, IsPadded, IsPaddedPlace, MayPad, around, count_tokens, entries_of, gap_at}
use Rattle.js_document.specs.Gap.{last_entry, more_tokens, reads_on, rows_of, shifted_entry}
use Rattle.js_document.specs.LiveTokens.{StartUpTo}
use Rattle.js_document.specs.Reading.{IsSeam}
use Rattle.js_document.proofs.ListLemmas.{all_dropped, all_mapped, all_reversed, get_dropped, get_mapped, get_taken}
use Rattle.js_document.proofs.ListLemmas.{get_turned, get_within, put_mapped, take_turned}
use Rattle.js_document.proofs.ShiftLemmas.{row_back, row_both, row_composed, row_of_shifted, row_to_shifted}

more_one : (b : Bool) → (if◌then◌else◌ {A = ℕ} b 1 0) ≤ 1
more_one true = omega arith
more_one false = omega arith

module _ {K : Type 0} where
  entry_back : (pad : ℕ) (e : Entry K) → shifted_entry {K = K} pad 0 (shifted_entry {K = K} 0 pad e) ≡ e
  entry_back pad e = λ j. record e { row = row_back pad e.row j }

  each_back : (pad : ℕ) (es : List (Entry K))
      → map (shifted_entry {K = K} pad 0) (map (shifted_entry {K = K} 0 pad) es) ≡ es
  each_back pad [] = refl
  each_back pad (e ∷ es) = λ j. entry_back pad e j ∷ each_back pad es j

  -- where none is behind the gap
  pub all_before : (g : GapState K) → g.back ≡ [] → entries_of {K = K} g ≡ g.front
  all_before g none =
      ap (λ back. around {K = K} g.front g.pad back) none ∙ append-nil g.front

  -- how many live tokens there are of rows that are moved, and of rows put together
  pub count_shifted : (from to : ℕ) (es : List (Entry K))
      → count_tokens (rows_of {K = K} (map (shifted_entry {K = K} from to) es)) ≡ count_tokens (rows_of {K = K} es)
  count_shifted from to [] = refl
  count_shifted from to (e ∷ es) = ap (λ n. more_tokens e.row + n) (count_shifted from to es)

  pub count_both : (xs ys : List (Entry K))
      → count_tokens (rows_of {K = K} (xs ++ ys)) ≡ count_tokens (rows_of {K = K} xs) + count_tokens (rows_of {K = K} ys)
  count_both [] ys = sym (zero-add (count_tokens (rows_of {K = K} ys)))
  count_both (x ∷ xs) ys = let more = count_both xs ys in omega (arith, more)

  -- no more than rows
  pub count_few : (es : List (Entry K)) → count_tokens (rows_of {K = K} es) ≤ length es
  count_few [] = omega arith
  count_few (e ∷ es) =
      let one = more_one (reads_on e.row) in
      let more = count_few es in
      omega (arith, one, more)

  pub more_few : (e : Entry K) → more_tokens e.row ≤ 1
  more_few e = more_one (reads_on e.row)

  -- with one entry more
  pub count_more : (es : List (Entry K)) (index : ℕ) (e : Entry K) → index < length es → e ≡ get_or es index e
      → count_tokens (rows_of {K = K} (take (index + 1) es))
      ≡ count_tokens (rows_of {K = K} (take index es)) + more_tokens e.row
  count_more es index e some is =
      let whole = ap (λ xs. count_tokens (rows_of {K = K} xs)) (take_more es index e some)
      ∙ count_both (take index es) (get_or es index e ∷ []) in
      let one = ap (λ (x : Entry K). more_tokens x.row) is in
      omega (arith, whole, one)

  -- a padded entry is one
  pub is_padded : (pad : ℕ) (e : Entry K) → MayPad {K = K} pad e
      → IsPadded {K = K} pad (shifted_entry {K = K} 0 pad e)
  is_padded pad e may = record {
    places =
        row_to_shifted (IsPaddedPlace pad) 0 pad e.row
        (row_weaker (λ place. place + pad < 2 ^ 32) (λ place. IsPaddedPlace pad (shifted 0 pad place))
        (λ place less. record { padded = omega arith; fits = omega (arith, less) }) e.row may.places);
    ordered = (let ordered = may.ordered in omega (arith, ordered));
  }

  -- the row of an entry
  pub row_of_entry : (es : List (Entry K)) (n : ℕ) (e : Entry K) → slice_get es n ≡ Some e
      → slice_get (rows_of {K = K} es) n ≡ Some e.row
  row_of_entry es n e is = put_mapped (λ (x : Entry K). x.row) es n e is

module _ {K : Type 0} (rows : List (Entry K)) (gap pad : ℕ) where
  abbrev behind_gap : List (Entry K)
  behind_gap = map (shifted_entry {K = K} 0 pad) (drop gap rows)

  -- the rows are those around the gap
  pub whole_at : entries_of {K = K} (gap_at {K = K} rows gap pad) ≡ rows
  whole_at =
      ap (λ es. take gap rows ++ map (shifted_entry {K = K} pad 0) es) (reverse-reverse behind_gap)
      ∙ ap (λ es. take gap rows ++ es) (each_back {K = K} pad (drop gap rows)) ∙ take-append-drop gap rows

  behind_long : length behind_gap ≡ length rows - gap
  behind_long = length-map (drop gap rows) (shifted_entry {K = K} 0 pad) ∙ length-drop gap rows

  module _ (g : GapState K) (is : gap_at {K = K} rows gap pad ≡ g) where
    pub whole : entries_of {K = K} g ≡ rows
    whole = ap (λ (x : GapState K). entries_of {K = K} x) (sym is) ∙ whole_at

    pub front_is : g.front ≡ take gap rows
    front_is = ap (λ (x : GapState K). x.front) (sym is)

    pub pad_is : g.pad ≡ pad
    pad_is = ap (λ (x : GapState K). x.pad) (sym is)

    back_is : g.back ≡ reverse behind_gap
    back_is = ap (λ (x : GapState K). x.back) (sym is)

    pub front_long : gap ≤ length rows → length g.front ≡ gap
    front_long few = ap (λ es. length es) front_is ∙ length-take-le gap rows few

    pub back_long : length g.back ≡ length rows - gap
    back_long = ap (λ es. length es) back_is ∙ length-reverse behind_gap ∙ behind_long

    pub left_small : (left : ℕ) → left ≤ length g.back → left ≤ length rows - gap
    left_small left few = (let long = back_long in omega (arith, few, long))

    -- what stands behind the gap is padded
    pub padded_back : AllByRecursion (MayPad {K = K} pad) rows → AllByRecursion (IsPadded {K = K} g.pad) g.back
    padded_back may =
        subst (λ (x : GapState K). AllByRecursion (IsPadded {K = K} x.pad) x.back) is
        (all_reversed (IsPadded {K = K} pad) behind_gap
        (all_mapped (MayPad {K = K} pad) (IsPadded {K = K} pad) (shifted_entry {K = K} 0 pad) (is_padded {K = K} pad)
        (drop gap rows) (all_dropped (MayPad {K = K} pad) gap rows may)))

    -- a row behind the gap, by how many stand behind it
    pub back_there : (left : ℕ) (e : Entry K) → left < length rows - gap → slice_get rows (length rows - 1 - left) ≡ Some e
        → slice_get g.back left ≡ Some (shifted_entry {K = K} 0 pad e)
    back_there left e less there =
        let place : gap + (length behind_gap - 1 - left) ≡ length rows - 1 - left =
        (let long = behind_long in omega (arith, long, less)) in
        ap (λ es. slice_get es left) back_is
        ∙ get_turned behind_gap left (let long = behind_long in omega (arith, long, less))
        ∙ put_mapped (shifted_entry {K = K} 0 pad) (drop gap rows) (length behind_gap - 1 - left) e
        (get_dropped gap (length behind_gap - 1 - left) rows ∙ ap (slice_get rows) place ∙ there)

    -- and the row that such a one is
    pub back_at : (left : ℕ) (padded : Entry K) → slice_get g.back left ≡ Some padded
        → (e : Entry K) × (slice_get rows (length rows - 1 - left) ≡ Some e)
        × (shifted_entry {K = K} 0 pad e ≡ padded)
    back_at left padded there =
        let within = get_within g.back left padded there in
        let long = back_long in
        let behind = behind_long in
        let place : gap + (length behind_gap - 1 - left) ≡ length rows - 1 - left =
        omega (arith, behind, long, within) in
        let turned : slice_get behind_gap (length behind_gap - 1 - left) ≡ Some padded =
        sym (get_turned behind_gap left (omega (arith, behind, long, within)))
        ∙ ap (λ es. slice_get es left) (sym back_is) ∙ there in
        let it = get_mapped (shifted_entry {K = K} 0 pad) (drop gap rows) (length behind_gap - 1 - left) padded turned in (
          it.0,
          ap (slice_get rows) (sym place) ∙ sym (get_dropped gap (length behind_gap - 1 - left) rows) ∙ it.1,
          it.2,
        )

    -- the last row before the gap
    pub last_there : (last : ℕ) (e : Entry K) → gap ≤ length rows → 1 ≤ gap → last ≡ gap - 1 → slice_get rows last ≡ Some e
        → last_entry {K = K} g.front ≡ Some e
    last_there last e few some last_is there =
        let long = front_long few in
        let place : length g.front - 1 ≡ last = omega (arith, long, last_is) in
        ap (slice_get g.front) place ∙ ap (λ es. slice_get es last) front_is
        ∙ get_taken gap last rows (omega (arith, some, last_is)) ∙ there

    pub last_none : gap ≡ 0 → last_entry {K = K} g.front ≡ None
    last_none none = ap (λ es. last_entry {K = K} es) (front_is ∙ ap (λ n. take n rows) none)

    -- Of the rows behind the gap so many start behind a padded place, where so many of all start at it or before it.
    pub seam_behind : (padded place count : ℕ) → gap ≤ length rows → padded ≡ place + pad
        → StartUpTo {K = K} place rows count → IsSeam {K = K} g.back padded (length rows - gap - (count - gap))
    seam_behind padded place count few padded_is up_to = record {
      few = (let long = back_long in omega (arith, long));
      above = λ index entry less at.
          let it = back_at index entry at in
          let within = get_within g.back index entry at in
          let long = back_long in
          let starts = up_to.rest (length rows - 1 - index) it.0 (omega (arith, less, within, long)) it.1 in
          let same = ap (λ (e : Entry K). e.row.token.start) it.2 in
          omega (arith, starts, same, padded_is);
      below = λ index entry past at.
          let it = back_at index entry at in
          let within = get_within g.back index entry at in
          let long = back_long in
          let starts = up_to.first (length rows - 1 - index) it.0 (omega (arith, past, within, long)) it.1 in
          let same = ap (λ (e : Entry K). e.row.token.start) it.2 in
          omega (arith, starts, same, padded_is);
    }

    -- All do, where the place is one before the text.
    pub seam_before : (padded : ℕ) → padded < pad → IsSeam {K = K} g.back padded (length rows - gap)
    seam_before padded less = record {
      few = (let long = back_long in omega (arith, long));
      above = λ index entry _ at.
          let it = back_at index entry at in
          let same = ap (λ (e : Entry K). e.row.token.start) it.2 in
          omega (arith, same, less);
      below = λ index entry past at.
          let within = get_within g.back index entry at in
          let long = back_long in
          absurd (omega (arith, past, within, long));
    }

    module _ (left : ℕ) (small : left ≤ length rows - gap) (few : gap ≤ length rows) where
      abbrev end : ℕ
      end = length rows - left

      -- the rows that are left behind the gap
      left_is : take left g.back ≡ reverse (map (shifted_entry {K = K} 0 pad) (drop end rows))
      left_is =
          let long = behind_long in
          let place : gap + (length behind_gap - left) ≡ end = omega (arith, long, small, few) in
          ap (take left) back_is ∙ take_turned behind_gap left (omega (arith, long, small))
          ∙ ap (λ es. reverse es)
          (drop-map (shifted_entry {K = K} 0 pad) (length behind_gap - left) (drop gap rows)
          ∙ ap (map (shifted_entry {K = K} 0 pad))
          (drop-drop (length behind_gap - left) gap rows ∙ ap (λ n. drop n rows) place))

      module _ (other : ℕ) (may : AllByRecursion (MayPad {K = K} pad) rows) where
        abbrev moved : Entry K → Entry K
        moved = shifted_entry {K = K} (other - pad) (pad - other)

        -- They may be moved to another pad, where they are padded by that.
        pub left_moves : AllByRecursion (IsPadded {K = K} other) (take left g.back)
            → AllByRecursion (MovesEntry {K = K} (other - pad) (pad - other)) (drop end rows)
        left_moves padded =
            each (drop end rows) (all_dropped (MayPad {K = K} pad) end rows may)
            (subst (AllByRecursion (IsPadded {K = K} other))
            (ap (λ es. reverse es) left_is ∙ reverse-reverse (map (shifted_entry {K = K} 0 pad) (drop end rows)))
            (all_reversed (IsPadded {K = K} other) (take left g.back) padded))
          where
            each : (es : List (Entry K)) → AllByRecursion (MayPad {K = K} pad) es
                → AllByRecursion (IsPadded {K = K} other) (map (shifted_entry {K = K} 0 pad) es)
                → AllByRecursion (MovesEntry {K = K} (other - pad) (pad - other)) es
            each [] all padded = tt
            each (e ∷ es) all padded = (
              record {
                places =
                    row_weaker (λ place. (place + pad < 2 ^ 32) × IsPaddedPlace other (shifted 0 pad place))
                    (MovesPlace (other - pad) (pad - other))
                    (λ place both.
                    let fits = both.0 in
                    let above = both.1.padded in
                    record {
                      behind = omega (arith, above);
                      small = omega (arith, fits);
                      fits = omega (arith, fits, above);
                    }) e.row
                    (row_both (λ place. place + pad < 2 ^ 32) (λ place. IsPaddedPlace other (shifted 0 pad place)) e.row
                    all.0.places (row_of_shifted (IsPaddedPlace other) 0 pad e.row padded.0.places));
                ordered = all.0.ordered;
              },
              each es all.1 padded.1,
            )

        pad_twice : (es : List (Entry K)) → AllByRecursion (MayPad {K = K} pad) es
            → map (shifted_entry {K = K} other 0) (map (shifted_entry {K = K} 0 pad) es) ≡ map moved es
        pad_twice [] all = refl
        pad_twice (e ∷ es) all =
            let one : shifted_entry {K = K} other 0 (shifted_entry {K = K} 0 pad e) ≡ moved e =
            λ j. record e {
              row =
                  sym (row_composed (λ place. place + pad < 2 ^ 32) (other - pad) (pad - other) 0 pad other 0
                  (λ place fits. omega arith) e.row all.0.places) j;
            } in
            λ j. one j ∷ pad_twice es all.1 j

        -- The rows with others before the gap, and those that are left behind it with another pad.
        pub around_left : (read : List (Entry K))
            → around {K = K} (g.front ++ read) other (take left g.back) ≡ take gap rows ++ read ++ map moved (drop end rows)
        around_left read =
            ap (λ es. around {K = K} (es ++ read) other (take left g.back)) front_is
            ∙ ap (around {K = K} (take gap rows ++ read) other) left_is
            ∙ ap (λ es. take gap rows ++ read ++ map (shifted_entry {K = K} other 0) es)
            (reverse-reverse (map (shifted_entry {K = K} 0 pad) (drop end rows)))
            ∙ ap (λ es. take gap rows ++ read ++ es)
            (pad_twice (drop end rows) (all_dropped (MayPad {K = K} pad) end rows may))

        pub left_few : (read new : List (Entry K)) → new ≡ take gap rows ++ read ++ map moved (drop end rows)
            → left ≤ length new
        left_few read new is =
            let whole = ap (λ es. length es) is
            ∙ length-append (take gap rows ++ read) (map moved (drop end rows)) in
            let last = length-map (drop end rows) moved in
            let all = length-drop end rows in
            omega (arith, whole, last, all, small)
