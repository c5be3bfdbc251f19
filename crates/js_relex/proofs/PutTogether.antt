-- Rows that are put together: kept ones, those that were read, and old ones, moved.
use Rattle.std.proofs.Common.{◌≡◌, ℕ, ◌+◌, ◌-◌, ◌≤◌, List, ◌++◌, length, map}
use Rattle.std.proofs.Common.{take, drop, sym, ◌∙◌, ap, subst, arith}
use Rattle.std.specs.List.{AllByRecursion}
use Rattle.js_session.specs.declared.report.Report.{Report}
use Rattle.js_session.specs.declared.row.Row.{Row}
use Rattle.js_session.specs.Shifted.{shifted_row}
use Rattle.js_relex.specs.Documents.{DocState, IsDocument, IsGathered, MayMove, joining}
use Rattle.js_relex.specs.Joined.{JoiningState}
use Rattle.js_relex.specs.Joining.{PreparedState, Prepares, all_rows, old_rows_behind, taken_over}
use Rattle.js_relex.specs.LiveLists.{Lasts}
use Rattle.js_relex.proofs.InPlace.{behind_may_move, kept_before, stay_behind}
use Rattle.js_relex.proofs.KeptRows.{take_lasting}
use Rattle.js_relex.proofs.Lasted.{rows_last}
use Rattle.js_relex.proofs.LiveInPlace.{all_dropped}
use Rattle.js_relex.proofs.Ticks.{behind_kept}

module _ (old : DocState) (start end : ℕ) (new : List ℕ) (p : PreparedState)
    (doc : IsDocument old.text old.source_type old.commands old.report) (h : Prepares old start end new p)
    (rows : List Row) (behind : ℕ) (rows_are : rows ≡ old.report.rows)
    (behind_is : behind ≡ taken_over (joining old start end new p.commands) p.kept p.rows) where
  abbrev j : JoiningState
  j = joining old start end new p.commands

  -- the old rows may be moved
  pub last_may_move : (from to : ℕ) → from ≡ j.from → to ≡ j.to
      → AllByRecursion (MayMove from to) (drop (length rows - behind) rows)
  last_may_move from to from_is to_is =
      let here : drop (length rows - behind) rows
      ≡ drop (length old.report.rows - taken_over j p.kept p.rows) old.report.rows =
      (λ i. drop (length (rows_are i) - behind_is i) (rows_are i)) in
      subst (λ rs. AllByRecursion (MayMove from to) rs) (sym here)
      (subst (λ n. AllByRecursion (MayMove n to) (old_rows_behind j (taken_over j p.kept p.rows))) (sym from_is)
      (subst (λ n. AllByRecursion (MayMove j.from n) (old_rows_behind j (taken_over j p.kept p.rows))) (sym to_is)
      (behind_may_move old start end new p doc h)))

  -- no row that is kept is one of them
  pub few_kept : (kept : ℕ) → kept ≡ p.kept → kept + behind ≤ length rows
  few_kept kept kept_is =
      let less = kept_before old start end new p doc h in
      let count = ap length rows_are in
      omega (arith, less, count, behind_is, kept_is)

  -- the rows that were read stay
  pub read_lasts : (read : List Row) → read ≡ p.rows → AllByRecursion Lasts read
  read_lasts read read_is =
      let n = p.kept + length p.rows - 1 in
      let all =
      rows_last p.text old.source_type (take n p.commands) (take p.kept j.rows ++ p.rows)
      (take_lasting n p.commands h.lasting) h.reads.are in
      subst (AllByRecursion Lasts) (behind_kept j p.kept p.rows h.few_kept ∙ sym read_is)
      (all_dropped Lasts p.kept (take p.kept j.rows ++ p.rows) all.0)

  -- where nothing moves, they stay
  pub rows_stay : (from to : ℕ) → from ≡ j.from → to ≡ j.to → from ≡ to
      → map (shifted_row from to) (drop (length rows - behind) rows) ≡ drop (length rows - behind) rows
  rows_stay from to from_is to_is same =
      let stay = stay_behind old start end new p doc h (sym from_is ∙ same ∙ to_is) in
      let here : drop (length rows - behind) rows
      ≡ drop (length old.report.rows - taken_over j p.kept p.rows) old.report.rows =
      (λ i. drop (length (rows_are i) - behind_is i) (rows_are i)) in
      (λ i. map (shifted_row (from_is i) (to_is i)) (here i)) ∙ stay ∙ sym here

  -- all rows, as they are put in place
  pub in_place : (kept : ℕ) (read : List Row) (from to : ℕ) → kept ≡ p.kept → read ≡ p.rows → from ≡ j.from
      → to ≡ j.to
      → take kept rows ++ read ++ map (shifted_row from to) (drop (length rows - behind) rows)
      ≡ all_rows j p.kept p.rows
  in_place kept read from to kept_is read_is from_is to_is =
      λ i. take (kept_is i) (rows_are i) ++ read_is i
      ++ map (shifted_row (from_is i) (to_is i)) (drop (length (rows_are i) - behind_is i) (rows_are i))

-- What is gathered of the rows that were put in place is gathered of all.
pub gathered_in_place : (old : DocState) (start end : ℕ) (new : List ℕ) (p : PreparedState)
    (doc : IsDocument old.text old.source_type old.commands old.report) (h : Prepares old start end new p)
    (rows : List Row) (behind kept : ℕ) (read : List Row) (from to : ℕ) (report : Report) → rows ≡ old.report.rows
    → behind ≡ taken_over (joining old start end new p.commands) p.kept p.rows → kept ≡ p.kept → read ≡ p.rows
    → from ≡ end → to ≡ start + length new
    → IsGathered (take kept rows ++ read ++ map (shifted_row from to) (drop (length rows - behind) rows)) report
    → IsGathered (all_rows (joining old start end new p.commands) p.kept p.rows) report
gathered_in_place old start end new p doc h rows behind kept read from to report rows_are behind_is kept_is read_is
    from_is to_is gathered =
    subst (λ rs. IsGathered rs report)
    (in_place old start end new p doc h rows behind rows_are behind_is kept read from to kept_is read_is from_is to_is)
    gathered
