-- The rows of an edited text that stand for old ones.
use Rattle.std.proofs.Common.{◌≡◌, ℕ, suc, ◌+◌, ◌-◌, ◌≤◌, Bool, true, false, List, [], ◌++◌, length, map}
use Rattle.std.proofs.Common.{take, drop, refl, sym, ◌∙◌, ap, subst, arith, append_assoc, Option}
use Rattle.std.specs.List.{AllByRecursion}
use Rattle.std.proofs.Math.Seq.{drop-append_seam, drop-length, take-append_seam}
use Rattle.std.proofs.lemmas.List.{length-append, length-drop, length-map, length-take-le}
use Rattle.js_session.specs.declared.row.Row.{Row}
use Rattle.js_session.specs.Shifted.{OfEachPlace, shifted_row}
use Rattle.js_relex.specs.Documents.{DocState, IsDocument, TakesOver, joining, last_rows, rows_behind_joined}
use Rattle.js_relex.specs.Documents.{rows_taken_over}
use Rattle.js_relex.specs.Joined.{JoiningState}
use Rattle.js_relex.specs.Joining.{PreparedState, Prepares, all_rows, joined_at, old_rows_behind, taken_over}
use Rattle.js_relex.proofs.InPlace.{behind_edit, kept_before}

-- the first of three lists, and the last
first_of : (xs ys zs : List Row) (n : ℕ) → length xs ≡ n → take n (xs ++ ys ++ zs) ≡ xs
first_of xs ys zs n count =
    ap (take n) (append_assoc xs ys zs) ∙ ap (λ k. take k (xs ++ (ys ++ zs))) (sym count)
    ∙ take-append_seam xs (ys ++ zs)

last_of : (xs ys zs : List Row) (n : ℕ) → length xs + length ys ≡ n → drop n (xs ++ ys ++ zs) ≡ zs
last_of xs ys zs n count =
    ap (λ k. drop k (xs ++ ys ++ zs)) (sym (length-append xs ys ∙ count)) ∙ drop-append_seam (xs ++ ys) zs

-- so many last rows are so many
count_last : (count : ℕ) (rows : List Row) → count ≤ length rows → length (last_rows count rows) ≡ count
count_last count rows few =
    let all = length-drop (length rows - count) rows in omega (arith, all, few)

module _ (old : DocState) (start end : ℕ) (new : List ℕ) (p : PreparedState)
    (doc : IsDocument old.text old.source_type old.commands old.report) (h : Prepares old start end new p) where
  abbrev j : JoiningState
  j = joining old start end new p.commands

  abbrev behind : ℕ
  behind = taken_over j p.kept p.rows

  abbrev taken : List Row
  taken = map (shifted_row j.from j.to) (old_rows_behind j behind)

  few : behind ≤ length old.report.rows
  few = let less = kept_before old start end new p doc h in omega (arith, less)

  count : length taken ≡ behind
  count = length-map (old_rows_behind j behind) (shifted_row j.from j.to) ∙ count_last behind old.report.rows few

  at_front : length (take p.kept old.report.rows) ≡ p.kept
  at_front = length-take-le p.kept old.report.rows h.few_kept

  -- how many are taken over, and which
  record AreTaken (joined : Option ℕ) : Type 0 where
    many : rows_taken_over joined (all_rows j p.kept p.rows) ≡ behind
    are : rows_behind_joined joined (all_rows j p.kept p.rows) ≡ taken

  are_taken : (b : Bool) → p.joined ≡ b → AreTaken (joined_at b (p.kept + length p.rows - 1))
  are_taken false absent =
      let all = h.reads.all absent in
      let none : behind ≡ 0 = omega (arith, all) in
      let whole : length old.report.rows - 0 ≡ length old.report.rows = omega arith in
      record {
        many = sym none;
        are =
            sym
            (ap (map (shifted_row j.from j.to))
            (ap (old_rows_behind j) none ∙ ap (λ n. drop n old.report.rows) whole ∙ drop-length old.report.rows));
      }
  are_taken true present =
      let some = h.reads.some in
      let at : suc (p.kept + length p.rows - 1) ≡ p.kept + length p.rows = omega (arith, some) in
      let front = take p.kept old.report.rows in
      let all = length-append (front ++ p.rows) taken in
      let both = length-append front p.rows in
      record {
        many = let f = at_front in let c = count in omega (arith, all, both, f, c, at);
        are =
            ap (λ n. drop n (all_rows j p.kept p.rows)) at
            ∙ last_of front p.rows taken (p.kept + length p.rows)
            (let f = at_front in omega (arith, f));
      }

  pub takes_over : TakesOver old start end new (all_rows j p.kept p.rows) p.kept
      (joined_at p.joined (p.kept + length p.rows - 1))
  takes_over =
      let t = are_taken p.joined refl in
      record {
        front = first_of (take p.kept old.report.rows) p.rows taken p.kept at_front;
        few_front = h.few_kept;
        behind =
            t.are
            ∙ ap (λ n. map (shifted_row end (start + length new)) (last_rows n old.report.rows)) (sym t.many);
        few_behind = subst (λ n. n ≤ length old.report.rows) (sym t.many) few;
        behind_edit =
            subst (λ n. AllByRecursion (OfEachPlace (λ place. end ≤ place)) (last_rows n old.report.rows)) (sym t.many)
            (behind_edit old start end new p doc h);
      }
