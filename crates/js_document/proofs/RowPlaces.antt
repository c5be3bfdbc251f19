-- Where a place stands among rows, and which of them have live tokens.
use Rattle.std.proofs.Common.{◌≡◌, ℕ, zero, suc, ◌+◌, ◌-◌, ◌<◌, ◌≤◌, Bool, true, false, leb, List, [], ◌∷◌, ◌++◌, length, map}
use Rattle.std.proofs.Common.{drop, refl, sym, ◌∙◌, ap, arith, get_or, Option, Some, None}
use Rattle.std.specs.List.Sorted.{IsPartitionPoint}
use Rattle.std.specs.Option.{SomeIff, option_map, option_map_or}
use Rattle.std.specs.Prelude.{if◌then◌else◌, reverse, slice_get}
use Rattle.std.proofs.lemmas.Bool.{leb-false, leb-true}
use Rattle.std.proofs.lemmas.List.{length-append, length-map, length-reverse, map-append, reverse-append}
use Rattle.std.proofs.lemmas.Option.{slice_get-get_or}
use Rattle.js_kind.specs.TokenParts.{TokenParts}
use Rattle.js_session.specs.declared.row.Row.{Row}
use Rattle.js_session.specs.Shifted.{shifted_row}
use Rattle.js_document.specs.declared.gap.Entry.{Entry}
use Rattle.js_document.specs.Gap.{AreInOrder, GapState, entries_of, reads_again, rows_of, shifted_entry}
use Rattle.js_document.specs.LiveTokens.{IsRowAt, StartUpTo, TakesLive, tokens_in, tokens_with}
use Rattle.js_document.proofs.EditedDocument.{rows_shifted}
use Rattle.js_document.proofs.GapLemmas.{row_of_entry}
use Rattle.js_document.proofs.JoinLemmas.{order_at}
use Rattle.js_document.proofs.KeptLemmas.{rows_joined}
use Rattle.js_document.proofs.ListLemmas.{drop_at_item, get_dropped, get_mapped, get_there, get_within, map_turned, put_mapped}

module _ {K : Type 0} where
  pub turned_rows : (pad : ℕ) (es : List (Entry K))
      → rows_of {K = K} (map (shifted_entry {K = K} pad 0) (reverse es))
      ≡ map (shifted_row pad 0) (reverse (rows_of {K = K} es))
  turned_rows pad es =
      rows_shifted {K = K} pad 0 (reverse es) ∙ ap (map (shifted_row pad 0)) (map_turned (λ (e : Entry K). e.row) es)

  pub turned_both : (pad : ℕ) (xs ys : List (Entry K))
      → map (shifted_row pad 0) (reverse (rows_of {K = K} (xs ++ ys)))
      ≡ map (shifted_row pad 0) (reverse (rows_of {K = K} ys)) ++ map (shifted_row pad 0) (reverse (rows_of {K = K} xs))
  turned_both pad xs ys =
      ap (λ rs. map (shifted_row pad 0) (reverse rs)) (rows_joined {K = K} xs ys)
      ∙ ap (map (shifted_row pad 0)) (reverse-append (rows_of {K = K} xs) (rows_of {K = K} ys))
      ∙ map-append (shifted_row pad 0) (reverse (rows_of {K = K} ys)) (reverse (rows_of {K = K} xs))

  pub rows_around : (g : GapState K) → rows_of {K = K} (entries_of {K = K} g)
      ≡ rows_of {K = K} g.front ++ map (shifted_row g.pad 0) (reverse (rows_of {K = K} g.back))
  rows_around g =
      rows_joined {K = K} g.front (map (shifted_entry {K = K} g.pad 0) (reverse g.back))
      ∙ ap (λ rs. rows_of {K = K} g.front ++ rs) (turned_rows g.pad g.back)

  pub length_around : (g : GapState K) → length (entries_of {K = K} g) ≡ length g.front + length g.back
  length_around g =
      length-append g.front (map (shifted_entry {K = K} g.pad 0) (reverse g.back))
      ∙ ap (λ n. length g.front + n)
      (length-map (reverse g.back) (shifted_entry {K = K} g.pad 0) ∙ length-reverse g.back)

  -- entries in order are parted by where they start
  pub rises : (front : List (Entry K)) → AreInOrder (rows_of {K = K} front) → (i j : ℕ) (x y : Entry K)
      → slice_get front i ≡ Some x → slice_get front j ≡ Some y → i ≤ j → x.row.token.start ≤ y.row.token.start
  rises front order i j x y at_i at_j less = by_place (leb j i) refl
    where
      by_place : (b : Bool) → leb j i ≡ b → x.row.token.start ≤ y.row.token.start
      by_place true e =
          let same : i ≡ j = (let past = leb-true j i e in omega (arith, past, less)) in
          let both : Some x ≡ Some y = sym at_i ∙ ap (slice_get front) same ∙ at_j in
          let one : x ≡ y = cc in
          let starts = ap (λ (z : Entry K). z.row.token.start) one in
          omega (arith, starts)
      by_place false e =
          let before = leb-false j i e in
          (order_at (rows_of {K = K} front) i j x.row y.row order (row_of_entry {K = K} front i x at_i)
          (row_of_entry {K = K} front j y at_j) (omega (arith, before))).starts

  pub front_point : (front : List (Entry K)) (place count : ℕ) → count ≤ length front
      → IsPartitionPoint (λ (e : Entry K). leb e.row.token.start place ≡ true)
      (λ (e : Entry K). leb e.row.token.start place ≡ false) front count → StartUpTo {K = K} place front count
  front_point front place count few point = record {
    few = few;
    first = λ index entry less at.
        let same = got index entry at in
        let passes = leb-true (get_or front index entry).row.token.start place
        (point.0 index entry (omega arith) less) in
        omega (arith, passes, ap (λ (e : Entry K). e.row.token.start) same);
    rest = λ index entry from at.
        let same = got index entry at in
        let within = get_within front index entry at in
        let fails = leb-false (get_or front index entry).row.token.start place (point.1 index entry from within) in
        omega (arith, fails, ap (λ (e : Entry K). e.row.token.start) same);
  }
    where
      got : (index : ℕ) (entry : Entry K) → slice_get front index ≡ Some entry → get_or front index entry ≡ entry
      got index entry at =
          let both : Some (get_or front index entry) ≡ Some entry =
          sym (slice_get-get_or front index entry (get_within front index entry at)) ∙ at in
          cc

  -- The last row that starts at the place or before it, by how many do.
  pub row_at_of : (es : List (Entry K)) (place count : ℕ) → StartUpTo {K = K} place es count → (last : Option ℕ)
      → SomeIff last (1 ≤ count) (count - 1) → IsRowAt place (rows_of {K = K} es) last
  row_at_of es place count up_to None none = λ index row at.
      let it = get_mapped (λ (e : Entry K). e.row) es index row at in
      let starts = up_to.rest index it.0 (omega (arith, none)) it.1 in
      let same = ap (λ (r : Row). r.token.start) it.2 in
      omega (arith, starts, same)
  row_at_of es place count up_to (Some last) some =
      let few = up_to.few in
      let one = some.0 in
      let last_is = some.1 in
      let it = get_there es last (omega (arith, few, one, last_is)) in
      record {
        row = it.0.row;
        is_there = put_mapped (λ (e : Entry K). e.row) es last it.0 it.1;
        starts = up_to.first last it.0 (omega (arith, one, last_is)) it.1;
        none_later = λ later other past at.
            let held = get_mapped (λ (e : Entry K). e.row) es later other at in
            let starts = up_to.rest later held.0 (omega (arith, past, last_is, one)) held.1 in
            let same = ap (λ (r : Row). r.token.start) held.2 in
            omega (arith, starts, same);
      }

-- The tokens from an index on are those from the last row so far on.
abbrev pub TakenUpTo : List Row → ℕ → ℕ → Type 0
TakenUpTo rows index next =
    (last : Row) → slice_get rows (next - 1) ≡ Some last
    → tokens_in (drop index rows) ≡ tokens_with last.token (drop next rows)

pub taken_first : (rows : List Row) (index next : ℕ) → next ≡ index + 1 → TakenUpTo rows index next
taken_first rows index next is = λ last at.
    let place : next - 1 ≡ index = omega (arith, is) in
    let one : suc index ≡ next = omega (arith, is) in
    ap tokens_in (drop_at_item rows index last (ap (slice_get rows) (sym place) ∙ at))
    ∙ ap (λ n. tokens_with last.token (drop n rows)) one

-- the next row reads the last one again
pub taken_more : (rows : List Row) (index next : ℕ) → 0 < next → next < length rows
    → option_map_or reads_again (slice_get rows next) false ≡ true → TakenUpTo rows index next
    → TakenUpTo rows index (next + 1)
taken_more rows index next some less reads so_far = λ last at.
    let place : next + 1 - 1 ≡ next = omega arith in
    let here : slice_get rows next ≡ Some last = ap (slice_get rows) (sym place) ∙ at in
    let again : reads_again last ≡ true = ap (λ o. option_map_or reads_again o false) (sym here) ∙ reads in
    let before = get_there rows (next - 1) (omega (arith, less)) in
    let one : suc next ≡ next + 1 = omega arith in
    so_far before.0 before.1
    ∙ ap (tokens_with before.0.token) (drop_at_item rows next last here)
    ∙ ap (λ b. if◌then◌else◌ {A = List TokenParts} b (tokens_with last.token (drop (suc next) rows))
    (before.0.token ∷ tokens_with last.token (drop (suc next) rows))) again
    ∙ ap (λ n. tokens_with last.token (drop n rows)) one

-- or there is none, or it does not
pub taken_all : (rows : List Row) (index next : ℕ) → option_map_or reads_again (slice_get rows next) false ≡ false
    → TakenUpTo rows index next → TakesLive rows index next
taken_all rows index next not_again so_far = λ last at. so_far last at ∙ by_rest (drop next rows) refl last
  where
    by_rest : (rest : List Row) → drop next rows ≡ rest → (last : Row)
        → tokens_with last.token rest ≡ last.token ∷ tokens_in rest
    by_rest [] e last = refl
    by_rest (row ∷ rest) e last =
        let here : slice_get rows next ≡ Some row =
        ap (slice_get rows) (let place : next ≡ next + 0 = omega arith in place) ∙ sym (get_dropped next 0 rows)
        ∙ ap (λ xs. slice_get xs 0) e in
        let other : reads_again row ≡ false =
        ap (λ o. option_map_or reads_again o false) (sym here) ∙ not_again in
        ap (λ b. if◌then◌else◌ {A = List TokenParts} b (tokens_with row.token rest)
        (last.token ∷ tokens_with row.token rest)) other

-- The token of the last of them comes first.
pub next_token : (rows : List Row) (index behind : ℕ) (token : TokenParts) → TakesLive rows index behind
    → option_map (λ (row : Row). row.token) (slice_get rows (behind - 1)) ≡ Some token
    → tokens_in (drop index rows) ≡ token ∷ tokens_in (drop behind rows)
next_token rows index behind token takes at = by_row (slice_get rows (behind - 1)) refl at
  where
    by_row : (o : Option Row) → slice_get rows (behind - 1) ≡ o → option_map (λ (row : Row). row.token) o ≡ Some token
        → tokens_in (drop index rows) ≡ token ∷ tokens_in (drop behind rows)
    by_row None there at = absurd (cc)
    by_row (Some last) there at =
        let same : last.token ≡ token = cc in
        takes last there ∙ ap (λ t. t ∷ tokens_in (drop behind rows)) same

pub no_token : (rows : List Row) (index : ℕ) → length rows ≤ index → tokens_in (drop index rows) ≡ []
no_token [] zero few = refl
no_token [] (suc index) few = refl
no_token (row ∷ rows) zero few = absurd (omega (arith, few))
no_token (row ∷ rows) (suc index) few = no_token rows index (omega (arith, few))
