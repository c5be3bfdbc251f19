-- Old rows that are moved where they stand: they are not kept, their tokens lie in order, and where nothing moves they
-- stay.
use Rattle.std.proofs.Common.{◌≡◌, ℕ, zero, suc, ◌+◌, ◌-◌, ◌<◌, ◌≤◌, Bool, true}
use Rattle.std.proofs.Common.{false, List, [], ◌∷◌, ◌++◌, length, map}
use Rattle.std.proofs.Common.{take, drop, refl, sym, ◌∙◌, ap, subst, arith, inl, inr, Some}
use Rattle.std.specs.Prelude.{slice_get}
use Rattle.std.specs.List.{AllByRecursion, list_all}
use Rattle.std.specs.Str.{IsCharBoundary, IsUtf8}
use Rattle.std.proofs.Math.Seq.{drop-length}
use Rattle.std.proofs.lemmas.Bool.{and_parts, cases_lt}
use Rattle.std.proofs.lemmas.List.{length-append, length-drop, length-take-le, take-append-drop}
use Rattle.std.proofs.lemmas.Option.{slice_get_within}
use Rattle.std.proofs.lemmas.Str.{IsUtf8-drop}
use Rattle.js_text.specs.declared.source_type.SourceType.{SourceType}
use Rattle.js_kind.specs.TokenParts.{TokenParts}
use Rattle.js_session.specs.declared.command.Command.{Command}
use Rattle.js_session.specs.declared.row.Row.{Row}
use Rattle.js_session.specs.Effects.{effect_of, is_lasting}
use Rattle.js_session.specs.Live.{State, after_row, state_after_first}
use Rattle.js_session.specs.Report.{AreRows, Run}
use Rattle.js_session.specs.Session.{MayResume}
use Rattle.js_session.specs.Shifted.{FitsShifted, OfEachPlace, ShiftFits, shifted_row}
use Rattle.js_session.proofs.LastingRuns.{all_steps, lasting_steps}
use Rattle.js_session.proofs.RowsWithin.{rows_weaker, rows_within}
use Rattle.js_session.proofs.ShiftedRows.{run_lies_behind, run_stays}
use Rattle.js_relex.specs.Documents.{DocState, IsDocument, IsInOrder, MayMove, joining}
use Rattle.js_relex.specs.Joined.{FirstFrom, JoiningState, Joins}
use Rattle.js_relex.specs.Joining.{PreparedState, Prepares, joined_at, old_rows_behind, taken_over}
use Rattle.js_relex.specs.Kept.{IsKept, IsKeptBehind}
use Rattle.js_relex.proofs.FirstLemmas.{found_there}
use Rattle.js_relex.proofs.JoinedRows.{RunsOnFrom, count_rows, old_runs_on}
use Rattle.js_relex.proofs.KeptRows.{drop_lasting}
use Rattle.js_relex.proofs.LiveInPlace.{all_dropped}

-- rows that answer commands lie in order
run_in_order : (text : List ℕ) (t : SourceType) (s : State) (commands : List Command) (rows : List Row)
    → list_all is_lasting commands ≡ true → Run text t s commands rows → AllByRecursion IsInOrder rows
run_in_order text t s [] rows lasting run = subst (AllByRecursion IsInOrder) (sym run) tt
run_in_order text t s (c ∷ cs) [] lasting run = tt
run_in_order text t s (c ∷ cs) (row ∷ rows) lasting run =
    let both = and_parts (is_lasting c) (list_all is_lasting cs) lasting in
    let step = lasting_steps c both.0 in
    let run = rw step at run in (
      run.0.places.token.ordered,
      run_in_order text t (after_row (effect_of c) row s) cs rows both.1 run.1,
    )

rows_in_order : (text : List ℕ) (t : SourceType) (commands : List Command) (rows : List Row)
    → list_all is_lasting commands ≡ true → AreRows text t commands rows → AllByRecursion IsInOrder rows
rows_in_order text t commands [] lasting are = tt
rows_in_order text t commands (row ∷ rows) lasting are =
    (are.0.places.token.ordered, run_in_order text t (state_after_first row) commands rows lasting are.1)

in_order_at : (rows : List Row) (index : ℕ) (row : Row) → AllByRecursion IsInOrder rows
    → slice_get rows index ≡ Some row → IsInOrder row
in_order_at [] index row h is = absurd (let no = is in cc)
in_order_at (r ∷ rows) zero row h is = let same : r ≡ row = (let e = is in cc) in subst IsInOrder same h.0
in_order_at (r ∷ rows) (suc index) row h is = in_order_at rows index row h.1 is

-- a row that is kept ends before the edit
behind_at : (start : ℕ) (rows : List Row) (commands : List Command) (kept index : ℕ) (row : Row)
    → IsKeptBehind start rows commands kept → index < kept → slice_get rows index ≡ Some row
    → row.token.end + 4 ≤ start
behind_at start [] commands kept index row h less is = absurd (let no = is in cc)
behind_at start (r ∷ rows) [] kept index row h less is = absurd (let none = h in omega (arith, none, less))
behind_at start (r ∷ rows) (c ∷ cs) zero index row h less is = absurd (omega (arith, less))
behind_at start (r ∷ rows) (c ∷ cs) (suc kept) zero row h less is =
    let same : r ≡ row = (let e = is in cc) in subst (λ (x : Row). x.token.end + 4 ≤ start) same h.0.ends_before
behind_at start (r ∷ rows) (c ∷ cs) (suc kept) (suc index) row h less is =
    behind_at start rows cs kept index row h.1 (omega (arith, less)) is

kept_at : (start : ℕ) (rows : List Row) (commands : List Command) (kept index : ℕ) (row : Row)
    → IsKept start rows commands kept → index < kept → slice_get rows index ≡ Some row → row.token.end + 4 ≤ start
kept_at start [] commands kept index row h less is = absurd (let no = is in cc)
kept_at start (r ∷ rows) commands zero index row h less is = absurd (omega (arith, less))
kept_at start (r ∷ rows) commands (suc kept) zero row h less is =
    let same : r ≡ row = (let e = is in cc) in subst (λ (x : Row). x.token.end + 4 ≤ start) same h.0.ends_before
kept_at start (r ∷ rows) commands (suc kept) (suc index) row h less is =
    behind_at start rows commands kept index row h.1 (omega (arith, less)) is

-- Where the same front stands, the rows behind an edit stay.
edit_stays : (text : List ℕ) (end : ℕ) (t : SourceType) (commands : List Command) (rows : List Row)
    (token : TokenParts) → IsUtf8 text → IsCharBoundary text end
    → list_all is_lasting commands ≡ true → end ≤ token.start → RunsOnFrom text t commands rows token
    → map (shifted_row end end) rows ≡ rows
edit_stays text end t commands rows token u boundary lasting behind on =
    let before = take end text in
    let rest = drop end text in
    let whole : before ++ rest ≡ text = take-append-drop end text in
    let from : length before ≡ end = length-take-le end text boundary.0 in
    subst (λ n. map (shifted_row n n) rows ≡ rows) from
    (run_stays before rest t token on.state commands rows (IsUtf8-drop text end u boundary)
    (subst IsUtf8 (sym whole) u) (subst (λ n. n ≤ token.start) (sym from) behind)
    (subst (λ x. MayResume x token) (sym whole) on.behind.may).lies on.behind.last_is lasting
    (subst (λ x. Run x t on.state commands rows) (sym whole) on.run))

-- The rows behind an edit have each of their places behind it.
edit_before : (text : List ℕ) (end : ℕ) (t : SourceType) (commands : List Command) (rows : List Row)
    (token : TokenParts) → IsUtf8 text → IsCharBoundary text end
    → list_all is_lasting commands ≡ true → end ≤ token.start → RunsOnFrom text t commands rows token
    → AllByRecursion (OfEachPlace (λ place. end ≤ place)) rows
edit_before text end t commands rows token u boundary lasting behind on =
    let before = take end text in
    let rest = drop end text in
    let whole : before ++ rest ≡ text = take-append-drop end text in
    let from : length before ≡ end = length-take-le end text boundary.0 in
    subst (λ n. AllByRecursion (OfEachPlace (λ place. n ≤ place)) rows) from
    (run_lies_behind before rest t token on.state commands rows (IsUtf8-drop text end u boundary)
    (subst IsUtf8 (sym whole) u) (subst (λ n. n ≤ token.start) (sym from) behind)
    (subst (λ x. MayResume x token) (sym whole) on.behind.may).lies on.behind.last_is lasting
    (subst (λ x. Run x t on.state commands rows) (sym whole) on.run))

module _ (old : DocState) (start end : ℕ) (new : List ℕ) (p : PreparedState)
    (doc : IsDocument old.text old.source_type old.commands old.report) (h : Prepares old start end new p) where
  abbrev j : JoiningState
  j = joining old start end new p.commands

  abbrev behind : ℕ
  behind = taken_over j p.kept p.rows

  pub all_in_order : AllByRecursion IsInOrder old.report.rows
  all_in_order = rows_in_order old.text old.source_type old.commands old.report.rows doc.lasting doc.report_is.rows

  -- so many bytes has the edited text
  edited_length : length old.text - end + (start + length new) ≡ length p.text
  edited_length =
      let text = ap length h.text_is in
      let all = length-append (take start old.text ++ new) (drop end old.text) in
      let both = length-append (take start old.text) new in
      let front = length-take-le start old.text h.edit.starts.0 in
      let rest = length-drop end old.text in
      omega (arith, text, all, both, front, rest)

  -- Each place of the old rows is a `u32` once it is moved.
  all_fit : AllByRecursion (ShiftFits j.from j.to) old.report.rows
  all_fit =
      rows_weaker (λ place. place ≤ length old.text) (FitsShifted j.from j.to)
      (λ place inside. let count = edited_length in let short = h.short in omega (arith, inside, count, short))
      old.report.rows
      (rows_within old.text old.source_type old.commands old.report.rows doc.report_is.utf8
      (all_steps old.commands doc.lasting) doc.report_is.rows)

  all_may_move : (rows : List Row) → AllByRecursion IsInOrder rows → AllByRecursion (ShiftFits j.from j.to) rows
      → AllByRecursion (MayMove j.from j.to) rows
  all_may_move [] h k = tt
  all_may_move (row ∷ rows) h k = (record { ordered = h.0; fits = k.0 }, all_may_move rows h.1 k.1)

  pub behind_may_move : AllByRecursion (MayMove j.from j.to) (old_rows_behind j behind)
  behind_may_move =
      all_dropped (MayMove j.from j.to) (length old.report.rows - behind) old.report.rows
      (all_may_move old.report.rows all_in_order all_fit)

  -- the old row that is joined
  record IsJoined : Type 0 where
    index : ℕ
    row : Row
    is_there : slice_get old.report.rows index ≡ Some row
    starts_behind : end ≤ row.token.start
    fits : index ≤ length old.commands
    rest : suc index + behind ≡ length old.report.rows

  joined_old : p.joined ≡ true → IsJoined
  joined_old present =
      let some = h.reads.some in
      let few = h.reads.few in
      let m = p.kept + length p.rows - 1 in
      let there =
      found_there (Joins j) p.kept p.rows m
      (subst (λ b. FirstFrom (Joins j) p.kept p.rows (joined_at b m)) present h.reads.first) in
      let joins = there.has in
      let long = count_rows old.text old.source_type old.commands old.report.rows doc.lasting doc.report_is.rows in
      let within = slice_get_within old.report.rows joins.old_index joins.old_row joins.is_there in
      let fits : joins.old_index ≤ length old.commands = omega (arith, within, long) in
      let same_count : length p.commands - m ≡ length old.commands - joins.old_index =
      sym (length-drop m p.commands) ∙ ap length joins.commands_are ∙ length-drop joins.old_index old.commands in
      record {
        index = joins.old_index;
        row = joins.old_row;
        is_there = joins.is_there;
        starts_behind = joins.moved.behind_old;
        fits = fits;
        rest = omega (arith, some, few, long, fits, same_count);
      }

  -- No row that is kept is taken over.
  pub kept_before : p.kept + behind ≤ length old.report.rows
  kept_before = by_joined p.joined refl
    where
      by_joined : (b : Bool) → p.joined ≡ b → p.kept + behind ≤ length old.report.rows
      by_joined false absent =
          let all = h.reads.all absent in
          let few = h.few_kept in
          omega (arith, all, few)
      by_joined true present =
          let joined = joined_old present in
          let rest = joined.rest in
          elim (cases_lt joined.index p.kept) [
            | inl less ↦
                let ends =
                kept_at start old.report.rows p.commands p.kept joined.index joined.row h.kept_is less
                joined.is_there in
                let starts = joined.starts_behind in
                let order = in_order_at old.report.rows joined.index joined.row all_in_order joined.is_there in
                let edit = h.edit.ordered in
                absurd (omega (arith, ends, starts, order, edit))
            | inr more ↦ omega (arith, rest, more)
          ]

  -- Where the text has as many bytes as before, the rows that are taken over stay.
  pub stay_behind : j.from ≡ j.to
      → map (shifted_row j.from j.to) (old_rows_behind j behind) ≡ old_rows_behind j behind
  stay_behind same = by_joined p.joined refl
    where
      by_joined : (b : Bool) → p.joined ≡ b
          → map (shifted_row j.from j.to) (old_rows_behind j behind) ≡ old_rows_behind j behind
      by_joined false absent =
          let all = h.reads.all absent in
          let none : behind ≡ 0 = omega (arith, all) in
          let whole : length old.report.rows - 0 ≡ length old.report.rows = omega arith in
          let empty : old_rows_behind j behind ≡ [] =
          ap (old_rows_behind j) none ∙ ap (λ n. drop n old.report.rows) whole ∙ drop-length old.report.rows in
          ap (map (shifted_row j.from j.to)) empty ∙ sym empty
      by_joined true present =
          let joined = joined_old present in
          let rest = joined.rest in
          let at : suc joined.index ≡ length old.report.rows - behind = omega (arith, rest) in
          subst (λ n. map (shifted_row end n) (old_rows_behind j behind) ≡ old_rows_behind j behind) same
          (subst (λ n. map (shifted_row end end) (drop n old.report.rows) ≡ drop n old.report.rows) at
          (edit_stays old.text end old.source_type (drop joined.index old.commands)
          (drop (suc joined.index) old.report.rows) joined.row.token doc.report_is.utf8 h.edit.ends
          (drop_lasting joined.index old.commands doc.lasting) joined.starts_behind
          (old_runs_on old.text old.source_type old.commands old.report.rows joined.index joined.row doc.lasting
          joined.fits doc.report_is.rows joined.is_there)))

  -- The rows that are taken over have each of their places behind the edit.
  pub behind_edit : AllByRecursion (OfEachPlace (λ place. end ≤ place)) (old_rows_behind j behind)
  behind_edit = by_joined p.joined refl
    where
      by_joined : (b : Bool) → p.joined ≡ b
          → AllByRecursion (OfEachPlace (λ place. end ≤ place)) (old_rows_behind j behind)
      by_joined false absent =
          let all = h.reads.all absent in
          let none : behind ≡ 0 = omega (arith, all) in
          let whole : length old.report.rows - 0 ≡ length old.report.rows = omega arith in
          let empty : old_rows_behind j behind ≡ [] =
          ap (old_rows_behind j) none ∙ ap (λ n. drop n old.report.rows) whole ∙ drop-length old.report.rows in
          subst (AllByRecursion (OfEachPlace (λ place. end ≤ place))) (sym empty) tt
      by_joined true present =
          let joined = joined_old present in
          let rest = joined.rest in
          let at : suc joined.index ≡ length old.report.rows - behind = omega (arith, rest) in
          subst (λ n. AllByRecursion (OfEachPlace (λ place. end ≤ place)) (drop n old.report.rows)) at
          (edit_before old.text end old.source_type (drop joined.index old.commands)
          (drop (suc joined.index) old.report.rows) joined.row.token doc.report_is.utf8 h.edit.ends
          (drop_lasting joined.index old.commands doc.lasting) joined.starts_behind
          (old_runs_on old.text old.source_type old.commands old.report.rows joined.index joined.row doc.lasting
          joined.fits doc.report_is.rows joined.is_there))
