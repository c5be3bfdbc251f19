-- At which row the rows of an edited text join the old ones.
use Rattle.std.proofs.Common.{◌≡◌, ℕ, zero, suc, ◌+◌, ◌-◌, ◌<◌, ◌≤◌, Bool, true, List, [], ◌∷◌, ◌++◌, length, map, take}
use Rattle.std.proofs.Common.{leb, false, refl, sym, ◌∙◌, ap, subst, arith, Some}
use Rattle.std.specs.List.{AllByRecursion}
use Rattle.std.specs.Prelude.{reverse, slice_get}
use Rattle.std.proofs.lemmas.Bool.{leb-false, leb-true}
use Rattle.std.proofs.lemmas.List.{length-map, length-reverse}
use Rattle.js_text.specs.declared.source_type.SourceType.{SourceType}
use Rattle.js_kind.specs.TokenParts.{TokenParts}
use Rattle.js_session.specs.declared.row.Row.{Row}
use Rattle.js_session.specs.Shifted.{shifted, shifted_row, shifted_token}
use Rattle.js_choose.specs.Rules.{IsRule, Rule}
use Rattle.js_relex.specs.Joined.{IsMovedToken, at_start}
use Rattle.js_document.specs.declared.gap.Entry.{Entry}
use Rattle.js_document.specs.declared.open.Node.{Node}
use Rattle.js_document.specs.Documents.{DocState, JoinsRow, commands_of, tokens_behind}
use Rattle.js_document.specs.Gap.{GapState, IsPadded, entries_of, rows_of, shifted_entry}
use Rattle.js_document.specs.Reading.{AreKnown, JoiningState, JoinsHeld, JoinsNone, Knowledge}
use Rattle.js_document.specs.Reading.{states_of, with_row, with_rows}
use Rattle.js_document.specs.States.{Alikeness, IsLast}
use Rattle.js_document.proofs.BehindTokens.{is_behind}
use Rattle.js_document.proofs.EditedRows.{AreChosenRows, commands_are}
use Rattle.js_document.proofs.KeptLemmas.{Before, rows_joined}
use Rattle.js_document.proofs.ListLemmas.{get_left, get_right, get_turned, get_within}

-- an item of a list, at its place behind others
pub get_past : {A : Type 0} (xs ys : List A) (n : ℕ) → length xs ≤ n → slice_get (xs ++ ys) n ≡ slice_get ys (n - length xs)
get_past xs ys n past =
    let place : length xs + (n - length xs) ≡ n = omega (arith, past) in
    ap (slice_get (xs ++ ys)) (sym place) ∙ get_right xs ys (n - length xs)

pub get_mapped : {A B : Type 0} (f : A → B) (xs : List A) (n : ℕ) (y : B) → slice_get (map f xs) n ≡ Some y
    → (x : A) × (slice_get xs n ≡ Some x) × (y ≡ f x)
get_mapped f [] n y is = absurd (cc)
get_mapped f (x ∷ xs) zero y is = (x, refl, (let same : f x ≡ y = cc in sym same))
get_mapped f (x ∷ xs) (suc n) y is = get_mapped f xs n y is

pub all_get : {A : Type 0} (P : A → Type 0) (xs : List A) (n : ℕ) (x : A) → AllByRecursion P xs
    → slice_get xs n ≡ Some x → P x
all_get P [] n x all is = absurd (cc)
all_get P (y ∷ ys) zero x all is = (let same : y ≡ x = cc in subst P same all.0)
all_get P (y ∷ ys) (suc n) x all is = all_get P ys n x all.1 is

-- what is known of an entry with an index
pub known_at : {K : Type 0} (knows : Knowledge K) (nodes : List Node) (es : List (Entry K)) (index : ℕ) (e : Entry K)
    (tokens : List TokenParts)
    → AreKnown {K = K} knows nodes tokens (rows_of {K = K} es) (states_of {K = K} es) → slice_get es index ≡ Some e
    → knows nodes e.state (with_rows tokens (take (suc index) (rows_of {K = K} es)))
known_at knows nodes [] index e tokens known is = absurd (cc)
known_at {K} knows nodes (x ∷ es) zero e tokens known is =
    let same : x ≡ e = cc in
    subst (λ (y : Entry K). knows nodes y.state (with_row tokens x.row)) same known.0
known_at knows nodes (x ∷ es) (suc index) e tokens known is =
    known_at knows nodes es index e (with_row tokens x.row) known.1 is

module _ {K : Type 0} (rule : Rule) (law : IsRule rule) (Alike : Alikeness) (knows : Knowledge K) (nodes : List Node)
    (old_text new : List ℕ) (start end : ℕ) (t : SourceType) (g : GapState K) (old : DocState)
    (rows_are : old.report.rows ≡ rows_of {K = K} (entries_of {K = K} g))
    (commands_are_old : old.commands ≡ commands_of (rows_of {K = K} (entries_of {K = K} g)))
    (a : AreChosenRows rule old_text t (rows_of {K = K} (entries_of {K = K} g)))
    (known : AreKnown {K = K} knows nodes [] (rows_of {K = K} (entries_of {K = K} g))
    (states_of {K = K} (entries_of {K = K} g))) (padded : AllByRecursion (IsPadded {K = K} g.pad) g.back)
    (ordered : start ≤ end) (near : AllByRecursion (Before start) (rows_of {K = K} g.front))
    (front_ordered : AllByRecursion (λ (row : Row). row.token.start ≤ row.token.end) (rows_of {K = K} g.front))
    (j : JoiningState K) (back_is : j.back ≡ g.back) (limit_is : j.limit ≡ end + g.pad)
    (pads : j.pad + (start + length new) ≡ g.pad + end) where
  abbrev to : ℕ
  to = start + length new

  abbrev all : List Row
  all = rows_of {K = K} (entries_of {K = K} g)

  abbrev behind_gap : List (Entry K)
  behind_gap = map (shifted_entry {K = K} g.pad 0) (reverse g.back)

  -- what is live behind an old row
  old_tokens : (index : ℕ) → index < length all
      → tokens_behind old.commands old.report.rows index ≡ with_rows [] (take (suc index) all)
  old_tokens index less =
      ap (λ cs. tokens_behind cs old.report.rows index) commands_are_old
      ∙ ap (λ rs. tokens_behind (commands_of all) rs index) rows_are
      ∙ ap (λ cs. tokens_behind cs all index) (commands_are rule law old_text t all a)
      ∙ (is_behind rule law old_text t all a index less).tokens_are

  old_last : (index : ℕ) (row : Row) → slice_get all index ≡ Some row
      → IsLast row.token (with_rows [] (take (suc index) all))
  old_last index row is =
      let there = is_behind rule law old_text t all a index (get_within all index row is) in
      subst (IsLast row.token) there.tokens_are (there.last_is row is)

  -- A token that is held is an old one, moved, and the other way round.
  moved_to_held : (token entry : TokenParts) → g.pad ≤ entry.start → entry.start ≤ entry.end
      → IsMovedToken end to (shifted_token g.pad 0 entry) token → entry ≡ shifted_token 0 j.pad token
  moved_to_held token entry padded ordered moved =
      let less = moved.behind_old in
      let start_is = ap (λ (x : TokenParts). x.start) moved.same in
      let end_is = ap (λ (x : TokenParts). x.end) moved.same in
      let s : entry.start ≡ shifted 0 j.pad token.start = omega (arith, less, start_is, pads, padded) in
      let e : entry.end ≡ shifted 0 j.pad token.end = omega (arith, less, end_is, pads, padded, ordered) in
      (λ i. record entry { start = s i; end = e i })
      ∙ ap (λ (x : TokenParts). record x { start = shifted 0 j.pad token.start; end = shifted 0 j.pad token.end })
      (sym moved.same)

  held_to_moved : (token entry : TokenParts) → entry.start ≤ entry.end → j.limit ≤ entry.start
      → entry ≡ shifted_token 0 j.pad token → IsMovedToken end to (shifted_token g.pad 0 entry) token
  held_to_moved token entry ordered far same =
      let start_is = ap (λ (x : TokenParts). x.start) same in
      let end_is = ap (λ (x : TokenParts). x.end) same in
      let s : token.start ≡ shifted end to (shifted g.pad 0 entry.start) =
      omega (arith, start_is, pads, far, limit_is) in
      let e : token.end ≡ shifted end to (shifted g.pad 0 entry.end) =
      omega (arith, end_is, pads, far, limit_is, ordered) in
      record {
        behind_old = omega (arith, far, limit_is);
        behind_new = omega (arith, far, limit_is, start_is, pads);
        same =
            (λ i. record token { start = s i; end = e i })
            ∙ ap (λ (x : TokenParts). record x {
              start = shifted end to (shifted g.pad 0 entry.start);
              end = shifted end
                  to (shifted g.pad 0 entry.end);
            }) (sym same);
      }

  -- where an old row behind the gap stands
  abbrev place_of : ℕ → ℕ
  place_of left = length g.front + (length g.back - 1 - left)

  turned_there : (left : ℕ) (entry : Entry K) → slice_get g.back left ≡ Some entry
      → slice_get (reverse g.back) (length g.back - 1 - left) ≡ Some entry
  turned_there left entry is =
      let less = get_within g.back left entry is in
      let place : length g.back - 1 - (length g.back - 1 - left) ≡ left = omega (arith, less) in
      get_turned g.back (length g.back - 1 - left) (omega (arith, less)) ∙ ap (slice_get g.back) place ∙ is

  entry_there : (left : ℕ) (entry : Entry K) → slice_get g.back left ≡ Some entry
      → slice_get (entries_of {K = K} g) (place_of left) ≡ Some (shifted_entry {K = K} g.pad 0 entry)
  entry_there left entry is =
      get_right g.front behind_gap (length g.back - 1 - left)
      ∙ got (reverse g.back) (length g.back - 1 - left) entry (turned_there left entry is)
    where
      got : (es : List (Entry K)) (n : ℕ) (e : Entry K) → slice_get es n ≡ Some e
          → slice_get (map (shifted_entry {K = K} g.pad 0) es) n ≡ Some (shifted_entry {K = K} g.pad 0 e)
      got [] n e is = absurd (cc)
      got (x ∷ es) zero e is = (let same : x ≡ e = cc in ap (λ y. Some (shifted_entry {K = K} g.pad 0 y)) same)
      got (x ∷ es) (suc n) e is = got es n e is

  row_there : (es : List (Entry K)) (n : ℕ) (e : Entry K) → slice_get es n ≡ Some e
      → slice_get (rows_of {K = K} es) n ≡ Some e.row
  row_there [] n e is = absurd (cc)
  row_there (x ∷ es) zero e is = (let same : x ≡ e = cc in ap (λ (y : Entry K). Some y.row) same)
  row_there (x ∷ es) (suc n) e is = row_there es n e is

  module _ (text : List ℕ) (d : DocState) (new_rows : List Row) (new_rows_are : d.report.rows ≡ new_rows)
      (new_commands : d.commands ≡ commands_of new_rows) (c : AreChosenRows rule text t new_rows) where
    abbrev Joins : ℕ → Row → Type 0
    Joins = JoinsRow Alike old start end new d.commands d.report.rows

    -- what is live behind a new row
    new_tokens : (index : ℕ) → index < length new_rows
        → tokens_behind d.commands d.report.rows index ≡ with_rows [] (take (suc index) new_rows)
    new_tokens index less =
        ap (λ cs. tokens_behind cs d.report.rows index) new_commands
        ∙ ap (λ rs. tokens_behind (commands_of new_rows) rs index) new_rows_are
        ∙ ap (λ cs. tokens_behind cs new_rows index) (commands_are rule law text t new_rows c)
        ∙ (is_behind rule law text t new_rows c index less).tokens_are

    -- The row joins an old one, where its token is held with the same tokens.
    pub joins_held : (index : ℕ) (row : Row) (left : ℕ) → index < length new_rows
        → JoinsHeld {K = K} knows Alike nodes j row.token (with_rows [] (take (suc index) new_rows)) left
        → Joins index row
    joins_held index row left less joins =
        let entry = joins.entry in
        let is = ap (λ b. slice_get b left) (sym back_is) ∙ joins.is_there in
        let ordered_entry = (all_get (IsPadded {K = K} g.pad) g.back left entry padded is).ordered in
        let there = entry_there left entry is in
        let there_row = row_there (entries_of {K = K} g) (place_of left) (shifted_entry {K = K} g.pad 0 entry) there in
        let inside = get_within all (place_of left) (shifted_row g.pad 0 entry.row) there_row in
        record {
          old_index = place_of left;
          old_row = shifted_row g.pad 0 entry.row;
          is_there = ap (λ rs. slice_get rs (place_of left)) rows_are ∙ there_row;
          moved = held_to_moved row.token entry.row.token ordered_entry joins.is_held.behind joins.is_held.same;
          alike =
              subst (λ ts. Alike ts (tokens_behind old.commands old.report.rows (place_of left)))
              (sym (new_tokens index less))
              (subst (Alike (with_rows [] (take (suc index) new_rows))) (sym (old_tokens (place_of left) inside))
              (joins.alike (with_rows [] (take (suc (place_of left)) all)) (shifted_token g.pad 0 entry.row.token)
              (known_at {K = K} knows nodes (entries_of {K = K} g) (place_of left) (shifted_entry {K = K} g.pad 0 entry)
              [] known there) (old_last (place_of left) (shifted_row g.pad 0 entry.row) there_row) refl));
        }

    -- It joins none, where none is held.
    pub joins_none : (index : ℕ) (row : Row) → index < length new_rows
        → JoinsNone {K = K} knows Alike nodes j row.token (with_rows [] (take (suc index) new_rows)) → Joins index row → ⊥
    joins_none index row less none joins = by_place (leb (length g.front) joins.old_index) refl
      where
        there : slice_get all joins.old_index ≡ Some joins.old_row
        there = ap (λ rs. slice_get rs joins.old_index) (sym rows_are) ∙ joins.is_there

        inside : joins.old_index < length all
        inside = get_within all joins.old_index joins.old_row there

        front_long : length (rows_of {K = K} g.front) ≡ length g.front
        front_long = length-map g.front (λ (e : Entry K). e.row)

        split : slice_get all joins.old_index
            ≡ slice_get (rows_of {K = K} g.front ++ rows_of {K = K} behind_gap) joins.old_index
        split = ap (λ rs. slice_get rs joins.old_index) (rows_joined {K = K} g.front behind_gap)

        by_place : (b : Bool) → leb (length g.front) joins.old_index ≡ b → ⊥
        by_place false before =
            let less = leb-false (length g.front) joins.old_index before in
            let at : slice_get (rows_of {K = K} g.front) joins.old_index ≡ Some joins.old_row =
            sym (get_left (rows_of {K = K} g.front) (rows_of {K = K} behind_gap) joins.old_index
            (omega (arith, less, front_long))) ∙ sym split ∙ there in
            let ends = all_get (Before start) (rows_of {K = K} g.front) joins.old_index joins.old_row near at in
            let starts = all_get (λ (row : Row). row.token.start ≤ row.token.end) (rows_of {K = K} g.front)
            joins.old_index joins.old_row front_ordered at in
            let from = joins.moved.behind_old in
            absurd (omega (arith, ends, starts, from, ordered))
        by_place true behind =
            let past = leb-true (length g.front) joins.old_index behind in
            let at : slice_get (rows_of {K = K} behind_gap) (joins.old_index - length (rows_of {K = K} g.front))
            ≡ Some joins.old_row =
            sym (get_past (rows_of {K = K} g.front) (rows_of {K = K} behind_gap) joins.old_index
            (omega (arith, past, front_long))) ∙ sym split ∙ there in
            let e = get_mapped (λ (e : Entry K). e.row) behind_gap
            (joins.old_index - length (rows_of {K = K} g.front)) joins.old_row at in
            let f = get_mapped (shifted_entry {K = K} g.pad 0) (reverse g.back)
            (joins.old_index - length (rows_of {K = K} g.front)) e.0 e.1 in
            let entry = f.0 in
            let n = joins.old_index - length (rows_of {K = K} g.front) in
            let less = get_within (reverse g.back) n entry f.1 in
            let long = length-reverse g.back in
            let here : slice_get g.back (length g.back - 1 - n) ≡ Some entry =
            sym (get_turned g.back n (omega (arith, less, long))) ∙ f.1 in
            let place : place_of (length g.back - 1 - n) ≡ joins.old_index =
            omega (arith, past, front_long, less, long) in
            let row_is : joins.old_row ≡ shifted_row g.pad 0 entry.row =
            e.2 ∙ ap (λ (x : Entry K). x.row) f.2 in
            let is_padded = all_get (IsPadded {K = K} g.pad) g.back (length g.back - 1 - n) entry padded here in
            let moved : IsMovedToken end to (shifted_token g.pad 0 entry.row.token) row.token =
            subst (λ (r : Row). IsMovedToken end to r.token row.token) row_is joins.moved in
            let held = moved_to_held row.token entry.row.token is_padded.places.start.padded is_padded.ordered moved in
            let from = moved.behind_old in
            let pad_start = is_padded.places.start.padded in
            let known_here : knows nodes entry.state (with_rows [] (take (suc joins.old_index) all)) =
            subst (λ i. knows nodes entry.state (with_rows [] (take (suc i) all))) place
            (known_at {K = K} knows nodes (entries_of {K = K} g) (place_of (length g.back - 1 - n))
            (shifted_entry {K = K} g.pad 0 entry) [] known (entry_there (length g.back - 1 - n) entry here)) in
            let alike : Alike (with_rows [] (take (suc index) new_rows)) (with_rows [] (take (suc joins.old_index) all)) =
            subst (λ ts. Alike ts (with_rows [] (take (suc joins.old_index) all))) (new_tokens index less_new)
            (subst (Alike (tokens_behind d.commands d.report.rows index)) (old_tokens joins.old_index inside)
            joins.alike) in
            none (length g.back - 1 - n) entry (ap (λ b. slice_get b (length g.back - 1 - n)) back_is ∙ here)
            (record { behind = omega (arith, from, pad_start, limit_is); same = held })
            (with_rows [] (take (suc joins.old_index) all)) joins.old_row.token known_here
            (old_last joins.old_index joins.old_row there) (ap (λ (r : Row). at_start r.token) row_is) alike
          where
            less_new : index < length new_rows
            less_new = less
