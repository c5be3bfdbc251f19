-- What is live behind rows that stay where they are.
use Rattle.std.proofs.Common.{◌≡◌, ℕ, ◌+◌, ◌<◌, List, [], ◌∷◌, ◌++◌, length, map, take, drop, suc, refl, sym, ◌∙◌, ap, subst}
use Rattle.std.proofs.Common.{arith, get_or, zero}
use Rattle.std.proofs.Math.Seq.{take-suc}
use Rattle.std.proofs.lemmas.List.{map-append}
use Rattle.std.specs.List.{AllByRecursion}
use Rattle.js_session.specs.declared.report.Report.{Report}
use Rattle.js_session.specs.declared.row.Row.{Row}
use Rattle.js_session.specs.Live.{nothing_live, report_live, report_with}
use Rattle.js_relex.specs.Documents.{GoesLive, IsGathered, live_behind}
use Rattle.js_relex.proofs.LiveRows.{live-append}

-- what is live behind the rows was made live
abbrev pub GoesBehind : Report → List Row → Report → Type 0
GoesBehind a rows b = GoesLive a (live_behind (report_live a) rows) b

pub goes_both : (a b c : Report) (rows more : List Row) → GoesBehind a rows b → GoesBehind b more c
    → GoesBehind a (rows ++ more) c
goes_both a b c rows more h k = record {
  live_is =
      k.live_is ∙ ap (λ l. live_behind l more) h.live_is ∙ sym (live-append (report_live a) rows more);
  rows_are = k.rows_are ∙ h.rows_are;
  collected = k.collected ∙ h.collected;
}

-- one row more, each made another one
pub goes_next : (f : Row → Row) (a b c : Report) (rows : List Row) (index : ℕ) (row d : Row) → index < length rows
    → row ≡ f (get_or rows index d) → GoesBehind a (map f (take index rows)) b → GoesBehind b (row ∷ []) c
    → GoesBehind a (map f (take (index + 1) rows)) c
goes_next f a b c rows index row d some is h k =
    let one : suc index ≡ index + 1 = omega arith in
    let last : map f (take index rows) ++ row ∷ [] ≡ map f (take (suc index) rows) =
    ap (λ r. map f (take index rows) ++ r ∷ []) is
    ∙ sym (map-append f (take index rows) (get_or rows index d ∷ []))
    ∙ ap (map f) (sym (take-suc rows index d some)) in
    subst (λ n. GoesBehind a (map f (take n rows)) c) one
    (subst (λ rs. GoesBehind a rs c) last (goes_both a b c (map f (take index rows)) (row ∷ []) h k))

pub map_same : (rows : List Row) → map (λ (row : Row). row) rows ≡ rows
map_same [] = refl
map_same (row ∷ rows) = ap (λ rs. row ∷ rs) (map_same rows)

pub goes_next_row : (a b c : Report) (rows : List Row) (index : ℕ) (row d : Row) → index < length rows
    → row ≡ get_or rows index d → GoesBehind a (take index rows) b → GoesBehind b (row ∷ []) c
    → GoesBehind a (take (index + 1) rows) c
goes_next_row a b c rows index row d some is h k =
    subst (λ rs. GoesBehind a rs c) (map_same (take (index + 1) rows))
    (goes_next (λ (row : Row). row) a b c rows index row d some is
    (subst (λ rs. GoesBehind a rs b) (sym (map_same (take index rows))) h) k)

-- a report of no rows, in which that is live which is behind rows
pub live_report : (none a : Report) (rows : List Row) → none ≡ report_with [] [] nothing_live → GoesBehind none rows a
    → a ≡ report_with [] [] (live_behind nothing_live rows)
live_report none a rows is h =
    let rows_are : a.rows ≡ [] = h.rows_are ∙ ap (λ (r : Report). r.rows) is in
    let collected : a.collected ≡ [] = h.collected ∙ ap (λ (r : Report). r.collected) is in
    let live : report_live a ≡ live_behind nothing_live rows =
    h.live_is ∙ ap (λ (r : Report). live_behind (report_live r) rows) is in
    λ j. report_with (rows_are j) (collected j) (live j)

-- that report, with the rows
pub gathered_rows : (none a b : Report) (rows : List Row) → none ≡ report_with [] [] nothing_live → GoesBehind none rows a
    → b ≡ record a { rows = rows } → IsGathered rows b
gathered_rows none a b rows is h with_rows =
    let live = live_report none a rows is h in
    record {
      rows_are = ap (λ (r : Report). r.rows) with_rows;
      live = ap report_live with_rows ∙ ap report_live live;
      collected = ap (λ (r : Report). r.collected) with_rows ∙ ap (λ (r : Report). r.collected) live;
    }

module _ (P : Row → Type 0) where
  pub all_at : (rows : List Row) (index : ℕ) (d : Row) → index < length rows → AllByRecursion P rows
      → P (get_or rows index d)
  all_at [] index d some h = absurd (omega (arith, some))
  all_at (row ∷ rows) zero d some h = h.0
  all_at (row ∷ rows) (suc index) d some h = all_at rows index d (omega (arith, some)) h.1

  pub all_both : (xs ys : List Row) → AllByRecursion P xs → AllByRecursion P ys → AllByRecursion P (xs ++ ys)
  all_both [] ys h k = k
  all_both (x ∷ xs) ys h k = (h.0, all_both xs ys h.1 k)

  pub all_more : (rows : List Row) (index : ℕ) (d : Row) → index < length rows → AllByRecursion P (take index rows)
      → P (get_or rows index d) → AllByRecursion P (take (index + 1) rows)
  all_more rows index d some h k =
      let one : suc index ≡ index + 1 = omega arith in
      subst (λ n. AllByRecursion P (take n rows)) one
      (subst (AllByRecursion P) (sym (take-suc rows index d some))
      (all_both (take index rows) (get_or rows index d ∷ []) h (k, tt)))

  pub all_dropped : (n : ℕ) (rows : List Row) → AllByRecursion P rows → AllByRecursion P (drop n rows)
  all_dropped zero rows h = h
  all_dropped (suc n) [] h = tt
  all_dropped (suc n) (row ∷ rows) h = all_dropped n rows h.1

  pub all_taken : (n : ℕ) (rows : List Row) → AllByRecursion P rows → AllByRecursion P (take n rows)
  all_taken zero rows h = tt
  all_taken (suc n) [] h = tt
  all_taken (suc n) (row ∷ rows) h = (h.0, all_taken n rows h.1)
