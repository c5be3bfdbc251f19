-- Which items an edit changes of what was found.
use Rattle.std.proofs.Common.{◌≡◌, ℕ, ◌+◌, ◌-◌, ◌<◌, ◌≤◌, List, [], ◌∷◌, ◌++◌, length, map, take, drop, refl, sym, ◌∙◌, ap, subst}
use Rattle.std.proofs.Common.{append_assoc, append-nil, arith, get_or, length-append}
use Rattle.std.specs.List.{All, AllByRecursion, flat_map}
use Rattle.std.specs.Prelude.{IfOk, Result, reverse}
use Rattle.std.proofs.lemmas.List.{drop_at, length-map, length-reverse, map-append, take-append-drop, take-map, take_more}
use Rattle.std.proofs.lemmas.List.Concat.{flat_map-append}
use Rattle.std.proofs.lemmas.List.Elements.{recursion_from_All}
use Rattle.std.proofs.lemmas.Result.{IfOk-weaker}
use Rattle.js_session.specs.declared.row.Row.{Row}
use Rattle.js_session.specs.Shifted.{OfEachPlace, ShiftFits, shifted, shifted_row}
use Rattle.js_document.specs.declared.change.ChangedRange.{ChangedRange}
use Rattle.js_document.specs.declared.gap.Entry.{Entry}
use Rattle.js_document.specs.Changed.{IsChange, IsChangeBetween, MayChange}
use Rattle.js_document.specs.Gap.{GapState, around, entries_of, rows_of, shifted_entry}
use Rattle.js_document.proofs.EditedDocument.{all_turned}
use Rattle.js_document.proofs.EntryLoops.{rows_up_to}
use Rattle.js_document.proofs.KeptLemmas.{all_first, all_joined, all_rest, rows_joined}
use Rattle.js_document.proofs.ListLemmas.{map_turned, take_turned}
use Rattle.js_document.proofs.RowPlaces.{rows_around, turned_both, turned_rows}
use Rattle.js_document.proofs.ShiftLemmas.{row_to_shifted}

-- what holds of each item that a row found holds of all that rows found
pub all_found : {A : Type 0} (items : Row → List A) (P : A → Type 0) (Q : Row → Type 0)
    → ((row : Row) → Q row → All P (items row)) → (rows : List Row) → AllByRecursion Q rows
    → AllByRecursion P (flat_map items rows)
all_found items P Q law [] all = tt
all_found items P Q law (row ∷ rows) all =
    all_joined P (items row) (flat_map items rows) (recursion_from_All P (items row) (law row all.0))
    (all_found items P Q law rows all.1)

-- one item more is moved
pub moved_more : {A : Type 0} (f : A → A) (xs : List A) (index : ℕ) (x : A) (items now later : List A)
    → index < length xs → x ≡ get_or xs index x → now ≡ items ++ map f (take index xs) → later ≡ now ++ f x ∷ []
    → later ≡ items ++ map f (take (index + 1) xs)
moved_more f xs index x items now later some is so_far more =
    more ∙ ap (λ l. l ++ f x ∷ []) so_far ∙ append_assoc items (map f (take index xs)) (f x ∷ [])
    ∙ ap (λ y. items ++ (map f (take index xs) ++ f y ∷ [])) is
    ∙ ap (λ l. items ++ l) (sym (map-append f (take index xs) (get_or xs index x ∷ [])))
    ∙ ap (λ l. items ++ map f l) (sym (take_more xs index x some))

module _ {K A : Type 0} (items : Row → List A) where
  -- What one row more found is added.
  pub added_more : (es : List (Entry K)) (index : ℕ) (e : Entry K) (first now later : List A) → index < length es
      → e ≡ get_or es index e → now ≡ first ++ flat_map items (rows_of {K = K} (take index es))
      → later ≡ now ++ items e.row → later ≡ first ++ flat_map items (rows_of {K = K} (take (index + 1) es))
  added_more es index e first now later some is so_far more =
      let before = rows_of {K = K} (take index es) in
      more ∙ ap (λ l. l ++ items e.row) so_far ∙ append_assoc first (flat_map items before) (items e.row)
      ∙ ap (λ l. first ++ (flat_map items before ++ l)) (sym (append-nil (items e.row)))
      ∙ ap (λ l. first ++ l) (sym (flat_map-append items before (e.row ∷ [])))
      ∙ ap (λ rs. first ++ flat_map items rs) (sym (rows_up_to {K = K} es index e some is))

module _ {A : Type 0} (items : Row → List A) (moved : ℕ → ℕ → A → A)
    (law : (from to : ℕ) (row : Row) → items (shifted_row from to row) ≡ map (moved from to) (items row)) where
  found_shifted : (from to : ℕ) (rows : List Row)
      → flat_map items (map (shifted_row from to) rows) ≡ map (moved from to) (flat_map items rows)
  found_shifted from to [] = refl
  found_shifted from to (row ∷ rows) =
      ap (λ l. l ++ flat_map items (map (shifted_row from to) rows)) (law from to row)
      ∙ ap (λ l. map (moved from to) (items row) ++ l) (found_shifted from to rows)
      ∙ sym (map-append (moved from to) (items row) (flat_map items rows))

  module _ {K : Type 0} (start end : ℕ) (new : List ℕ) (g : GapState K) (left : ℕ) where
    abbrev to : ℕ
    to = start + length new

    abbrev turned : List (Entry K) → ℕ → List Row
    turned es p = map (shifted_row p 0) (reverse (rows_of {K = K} es))

    -- the items before the gap, those that are compared, and those behind them
    abbrev kept : List A
    kept = flat_map items (rows_of {K = K} g.front)

    abbrev olds : List A
    olds = flat_map items (turned (drop left g.back) g.pad)

    abbrev later : List A
    later = flat_map items (turned (take left g.back) g.pad)

    old_found : flat_map items (rows_of {K = K} (entries_of {K = K} g)) ≡ kept ++ olds ++ later
    old_found =
        let split : turned g.back g.pad ≡ turned (drop left g.back) g.pad ++ turned (take left g.back) g.pad =
        ap (λ es. turned es g.pad) (sym (take-append-drop left g.back))
        ∙ turned_both {K = K} g.pad (take left g.back) (drop left g.back) in
        ap (flat_map items) (rows_around {K = K} g ∙ ap (λ rs. rows_of {K = K} g.front ++ rs) split)
        ∙ flat_map-append items (rows_of {K = K} g.front)
        (turned (drop left g.back) g.pad ++ turned (take left g.back) g.pad)
        ∙ ap (λ l. kept ++ l)
        (flat_map-append items (turned (drop left g.back) g.pad) (turned (take left g.back) g.pad))
        ∙ sym (append_assoc kept olds later)

    -- The items that are compared may be moved, where the rows may.
    pub old_moves : (MayMove : ℕ → ℕ → A → Type 0)
        → ((from to : ℕ) (row : Row) → ShiftFits from to row → All (MayMove from to) (items row))
        → AllByRecursion (ShiftFits end to) (rows_of {K = K} (entries_of {K = K} g))
        → AllByRecursion (MayMove end to) olds
    old_moves MayMove may fits =
        all_rest (MayMove end to) kept olds
        (all_first (MayMove end to) (kept ++ olds) later
        (subst (AllByRecursion (MayMove end to)) old_found
        (all_found {A = A} items (MayMove end to) (ShiftFits end to) (may end to)
        (rows_of {K = K} (entries_of {K = K} g)) fits)))

    module _ (pad : ℕ) (m : MayChange {K = K} start end new g left pad) (read : List (Entry K)) where
      abbrev news : List A
      news = flat_map items (rows_of {K = K} read)

      abbrev back : List Row
      back = rows_of {K = K} (take left g.back)

      moved_back : turned (take left g.back) pad ≡ map (shifted_row end to) (turned (take left g.back) g.pad)
      moved_back =
          map_turned (shifted_row pad 0) back ∙ ap (λ l. reverse l) m.moved
          ∙ sym (map_turned (shifted_row end to) (map (shifted_row g.pad 0) back))
          ∙ ap (map (shifted_row end to)) (sym (map_turned (shifted_row g.pad 0) back))

      new_found : flat_map items (rows_of {K = K} (around {K = K} (g.front ++ read) pad (take left g.back)))
          ≡ kept ++ news ++ map (moved end to) later
      new_found =
          ap (flat_map items)
          (rows_around {K = K} (record { front = g.front ++ read; back = take left g.back; pad = pad })
          ∙ ap (λ rs. rs ++ turned (take left g.back) pad) (rows_joined {K = K} g.front read))
          ∙ flat_map-append items (rows_of {K = K} g.front ++ rows_of {K = K} read) (turned (take left g.back) pad)
          ∙ ap (λ l. l ++ flat_map items (turned (take left g.back) pad))
          (flat_map-append items (rows_of {K = K} g.front) (rows_of {K = K} read))
          ∙ ap (λ l. (kept ++ news) ++ l)
          (ap (flat_map items) moved_back ∙ found_shifted end to (turned (take left g.back) g.pad))

      abbrev Far : Entry K → Type 0
      Far e = OfEachPlace (λ place. end ≤ shifted g.pad 0 place) e.row

      far_later : AllByRecursion (OfEachPlace (λ place. end ≤ place)) (turned (take left g.back) g.pad)
      far_later =
          subst (λ rs. AllByRecursion (OfEachPlace (λ place. end ≤ place)) (map (shifted_row g.pad 0) rs))
          (map_turned (λ (e : Entry K). e.row) (take left g.back))
          (each (reverse (take left g.back)) (all_turned {K = K} Far (take left g.back) m.behind))
        where
          each : (es : List (Entry K)) → AllByRecursion Far es
              → AllByRecursion (OfEachPlace (λ place. end ≤ place)) (map (shifted_row g.pad 0) (rows_of {K = K} es))
          each [] all = tt
          each (e ∷ es) all = (row_to_shifted (λ place. end ≤ place) g.pad 0 e.row all.0, each es all.1)

      module _ (EndsBy StartsFrom : ℕ → A → Type 0)
          (ends : (place : ℕ) (row : Row) → OfEachPlace (λ p. p ≤ place) row → All (EndsBy place) (items row))
          (starts : (place : ℕ) (row : Row) → OfEachPlace (λ p. place ≤ p) row → All (StartsFrom place) (items row)) where
        abbrev pub Changes : ChangedRange → Type 0
        Changes r =
            IsChange {A = A} (EndsBy start) (StartsFrom end) (moved end to)
            (flat_map items (rows_of {K = K} (entries_of {K = K} g)))
            (flat_map items (rows_of {K = K} (around {K = K} (g.front ++ read) pad (take left g.back)))) r.start
            r.old_end r.new_end

        abbrev Between : ℕ → List A → List A → ChangedRange → Type 0
        Between index xs ys r = IsChangeBetween {A = A} (EndsBy start) (StartsFrom end) (moved end to) index xs ys r

        change_is : (index : ℕ) (r : ChangedRange) → index ≡ length kept → Between index olds news r → Changes r
        change_is index r place between =
            let before = all_found {A = A} items (EndsBy start) (OfEachPlace (λ p. p ≤ start)) (ends start)
            (rows_of {K = K} g.front) m.before in
            let behind = all_found {A = A} items (StartsFrom end) (OfEachPlace (λ p. end ≤ p)) (starts end)
            (turned (take left g.back) g.pad) far_later in
            subst
            (λ xs. IsChange {A = A} (EndsBy start) (StartsFrom end) (moved end to) xs
            (flat_map items (rows_of {K = K} (around {K = K} (g.front ++ read) pad (take left g.back)))) r.start
            r.old_end r.new_end) (sym old_found)
            (subst
            (λ xs. IsChange {A = A} (EndsBy start) (StartsFrom end) (moved end to) (kept ++ olds ++ later) xs r.start
            r.old_end r.new_end) (sym new_found) (between kept later (sym place) before behind))

        -- What the items that are compared tell of the change is told of the whole list.
        pub found_change : {E : Type 0} (index : ℕ) (old_items new_items : List A) (result : Result ChangedRange E)
            → index ≡ length kept → old_items ≡ olds → new_items ≡ news
            → IfOk result (Between index old_items new_items) → IfOk result Changes
        found_change index old_items new_items result place old_is new_is between =
            IfOk-weaker result (Between index old_items new_items) Changes
            (λ r is.
            change_is index r place
            (subst (λ xs. Between index xs news r) old_is
            (subst (λ xs. Between index old_items xs r) new_is is)))
            between

-- The rows behind the gap that go, told by their indices.
pub rows_gone : {K : Type 0} (g : GapState K) (left : ℕ) → left ≤ length g.back
    → rows_of {K = K} (take (length (entries_of {K = K} g) - left - length g.front) (drop (length g.front)
    (entries_of {K = K} g)))
    ≡ map (shifted_row g.pad 0) (reverse (rows_of {K = K} (drop left g.back)))
rows_gone {K} g left few =
    let turned = map (shifted_entry {K = K} g.pad 0) (reverse g.back) in
    let long = length-append g.front turned in
    let back = length-map (reverse g.back) (shifted_entry {K = K} g.pad 0) ∙ length-reverse g.back in
    let count = length g.back - left in
    let place : length (entries_of {K = K} g) - left - length g.front ≡ count = omega (arith, long, back) in
    let cut : length g.back - count ≡ left = omega (arith, few) in
    ap (λ es. rows_of {K = K} (take (length (entries_of {K = K} g) - left - length g.front) es))
    (drop_at g.front turned (length g.front) refl)
    ∙ ap (λ n. rows_of {K = K} (take n turned)) place
    ∙ ap (rows_of {K = K})
    (take-map (shifted_entry {K = K} g.pad 0) count (reverse g.back)
    ∙ ap (map (shifted_entry {K = K} g.pad 0))
    (take_turned g.back count (omega arith) ∙ ap (λ n. reverse (drop n g.back)) cut))
    ∙ turned_rows {K = K} g.pad (drop left g.back)
