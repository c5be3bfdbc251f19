-- The rows of an edited text: those that are kept, those that were read, and the old ones behind them, moved.
use Rattle.std.proofs.Common.{◌≡◌, ℕ, zero, suc, ◌+◌, ◌-◌, ◌<◌, ◌≤◌, Bool, true}
use Rattle.std.proofs.Common.{false, List, [], ◌∷◌, ◌++◌, length, map}
use Rattle.std.proofs.Common.{take, drop, refl, sym, ◌∙◌, ap, subst, arith, Some, append-nil}
use Rattle.std.specs.Prelude.{slice_get}
use Rattle.std.specs.List.{list_all}
use Rattle.std.specs.Str.{IsUtf8}
use Rattle.std.proofs.Math.Seq.{drop-append_seam, take-length}
use Rattle.std.proofs.lemmas.List.{drop_all, length-append, length-drop, length-take-le, take-append-drop}
use Rattle.std.proofs.lemmas.Option.{slice_get_within}
use Rattle.std.proofs.lemmas.Str.{IsUtf8-drop}
use Rattle.js_text.specs.declared.source_type.SourceType.{SourceType}
use Rattle.js_kind.specs.TokenParts.{TokenParts}
use Rattle.js_session.specs.declared.command.Command.{Command}
use Rattle.js_session.specs.declared.row.Row.{Row}
use Rattle.js_session.specs.Effects.{is_lasting}
use Rattle.js_session.specs.Live.{State, state_after, state_after_first}
use Rattle.js_session.specs.Report.{AreRows, Run}
use Rattle.js_session.specs.Session.{MayResume, last_token}
use Rattle.js_session.specs.Shifted.{shifted_row, shifted_token}
use Rattle.js_session.proofs.LastingRuns.{GoesOnBehind, all_steps, behind_first, behind_rows}
use Rattle.js_session.proofs.RunsOn.{runs_on}
use Rattle.js_session.proofs.ShiftedRows.{run_taken_over}
use Rattle.js_relex.specs.Documents.{DocState, IsDocument, IsEdit, edited, joining}
use Rattle.js_relex.specs.Joined.{FirstFrom, JoiningState, Joins}
use Rattle.js_relex.specs.Joining.{PreparedState, Prepares, all_rows, joined_at, old_rows_behind, taken_over}
use Rattle.js_relex.proofs.FirstLemmas.{found_there}
use Rattle.js_relex.proofs.KeptRows.{drop_lasting, take_lasting}
use Rattle.js_relex.proofs.Lasting.{run_length}
use Rattle.js_relex.proofs.SplitRuns.{run_splits}

-- the token of the last of some rows
last_at : (token : TokenParts) (rows : List Row) (index : ℕ) (row : Row) → length rows ≡ suc index
    → slice_get rows index ≡ Some row → last_token token rows ≡ row.token
last_at token [] index row count is = absurd (omega (arith, count))
last_at token (r ∷ []) zero row count is = let same : r ≡ row = (let e = is in cc) in ap (λ (r : Row). r.token) same
last_at token (r ∷ r2 ∷ rows) zero row count is = absurd (omega (arith, count))
last_at token (r ∷ []) (suc index) row count is = absurd (omega (arith, count))
last_at token (r ∷ r2 ∷ rows) (suc index) row count is =
    last_at r.token (r2 ∷ rows) index row (omega (arith, count)) is

last_of_both : (token : TokenParts) (xs ys : List Row) (index : ℕ) (row : Row) → length ys ≡ suc index
    → slice_get ys index ≡ Some row → last_token token (xs ++ ys) ≡ row.token
last_of_both token [] ys index row count is = last_at token ys index row count is
last_of_both token (x ∷ xs) ys index row count is = last_of_both x.token xs ys index row count is

-- an item of the front of a list
get_front : (xs ys : List Row) (index : ℕ) (row : Row) → index < length xs → slice_get (xs ++ ys) index ≡ Some row
    → slice_get xs index ≡ Some row
get_front [] ys index row some is = absurd (omega (arith, some))
get_front (x ∷ xs) ys zero row some is = is
get_front (x ∷ xs) ys (suc index) row some is = get_front xs ys index row (omega (arith, some)) is

-- Rows up to one: a session may go on behind its token, and these rows answer the commands from there.
pub record RunsOnFrom (text : List ℕ) (t : SourceType) (commands : List Command) (rows : List Row) (token : TokenParts)
    : Type 0 where
  pub state : State
  pub behind : GoesOnBehind text state token
  pub run : Run text t state commands rows

-- behind an old row
pub old_runs_on : (text : List ℕ) (t : SourceType) (commands : List Command) (all : List Row) (index : ℕ) (row : Row)
    → list_all is_lasting commands ≡ true → index ≤ length commands → AreRows text t commands all
    → slice_get all index ≡ Some row
    → RunsOnFrom text t (drop index commands) (drop (suc index) all) row.token
old_runs_on text t commands [] index row lasting inside are is = absurd are
old_runs_on text t commands (first ∷ rows) index row lasting inside are is =
    let s = state_after_first first in
    let front = take_lasting index commands lasting in
    let split =
    run_splits text t s (take index commands) (drop index commands) rows front
    (subst (λ cs. Run text t s cs rows) (sym (take-append-drop index commands)) are.1) in
    let long : length split.front ≡ index = split.count_is ∙ length-take-le index commands inside in
    let rest : split.behind ≡ drop index rows =
    sym (drop-append_seam split.front split.behind) ∙ ap (λ n. drop n (split.front ++ split.behind)) long
    ∙ ap (drop index) (sym split.all_are) in
    let here : slice_get (first ∷ split.front) index ≡ Some row =
    get_front (first ∷ split.front) split.behind index row (omega (arith, long))
    (subst (λ rs. slice_get (first ∷ rs) index ≡ Some row) split.all_are is) in
    let last : last_token first.token split.front ≡ row.token =
    last_at first.token (first ∷ split.front) index row (ap suc long) here in
    record {
      state = state_after s (take index commands) split.front;
      behind =
          subst (GoesOnBehind text (state_after s (take index commands) split.front)) last
          (behind_rows text t s (take index commands) split.front first.token front
          (behind_first text t first are.0) split.run);
      run =
          subst (Run text t (state_after s (take index commands) split.front) (drop index commands)) rest split.on;
    }

-- the rows of more commands, where those of the first ones end with a token
pub rows_go_on : (text : List ℕ) (t : SourceType) (commands more : List Command) (all later : List Row)
    (xs ys : List Row) (index : ℕ) (row : Row) → list_all is_lasting commands ≡ true → all ≡ xs ++ ys
    → length ys ≡ suc index → slice_get ys index ≡ Some row → AreRows text t commands all
    → ((s : State) → GoesOnBehind text s row.token → Run text t s more later)
    → AreRows text t (commands ++ more) (all ++ later)
rows_go_on text t commands more [] later xs ys index row lasting is count there are run = absurd are
rows_go_on text t commands more (first ∷ rows) later xs ys index row lasting is count there are run =
    let s = state_after_first first in
    let last : last_token first.token rows ≡ row.token =
    ap (last_token first.token) is ∙ last_of_both first.token xs ys index row count there in
    let behind =
    subst (GoesOnBehind text (state_after s commands rows)) last
    (behind_rows text t s commands rows first.token lasting (behind_first text t first are.0) are.1) in (
      are.0,
      (runs_on text t s commands more rows later are.1).run (run (state_after s commands rows) behind),
    )

-- Old rows behind one that is joined are, moved, rows of the new text.
taken_over_rows : (old_text new : List ℕ) (start end : ℕ) (t : SourceType) (commands : List Command)
    (rows : List Row) (token new_token : TokenParts) (s : State) → IsEdit old_text start end → IsUtf8 old_text
    → IsUtf8 (edited old_text start end new) → list_all is_lasting commands ≡ true
    → end ≤ token.start → new_token ≡ shifted_token end (start + length new) token
    → RunsOnFrom old_text t commands rows token → GoesOnBehind (edited old_text start end new) s new_token
    → Run (edited old_text start end new) t s commands (map (shifted_row end (start + length new)) rows)
taken_over_rows old_text new start end t commands rows token new_token s edit u v lasting behind same old here =
    let before = take end old_text in
    let after = take start old_text ++ new in
    let rest = drop end old_text in
    let whole : before ++ rest ≡ old_text = take-append-drop end old_text in
    let from : length before ≡ end = length-take-le end old_text edit.ends.0 in
    let to : length after ≡ start + length new =
    length-append (take start old_text) new
    ∙ ap (λ n. n + length new) (length-take-le start old_text edit.starts.0) in
    subst (λ n. Run (after ++ rest) t s commands (map (shifted_row n (start + length new)) rows)) from
    (subst (λ n. Run (after ++ rest) t s commands (map (shifted_row (length before) n) rows)) to
    (run_taken_over before after rest t token old.state s commands rows (IsUtf8-drop old_text end u edit.ends)
    (subst IsUtf8 (sym whole) u) v
    (subst (λ n. n ≤ token.start) (sym from) behind)
    (subst (λ x. MayResume x token) (sym whole) old.behind.may).lies
    old.behind.last_is
    (here.last_is
    ∙ ap Some (same ∙ ap (λ n. shifted_token n (start + length new) token) (sym from)
    ∙ ap (λ n. shifted_token (length before) n token) (sym to)))
    lasting (subst (λ x. Run x t old.state commands rows) (sym whole) old.run)))

-- the rows of a report are one more than its commands
pub count_rows : (text : List ℕ) (t : SourceType) (commands : List Command) (rows : List Row)
    → list_all is_lasting commands ≡ true → AreRows text t commands rows → length rows ≡ length commands + 1
count_rows text t commands [] lasting are = absurd are
count_rows text t commands (row ∷ rows) lasting are =
    let count = run_length text t (state_after_first row) commands rows (all_steps commands lasting) are.1 in
    omega (arith, count)

-- none is taken over
pub none_behind : (j : JoiningState) (kept : ℕ) (rows : List Row) → kept + length rows ≡ length j.commands + 1
    → all_rows j kept rows ≡ take kept j.rows ++ rows
none_behind j kept rows all =
    let none : taken_over j kept rows ≡ 0 = omega (arith, all) in
    let whole : length j.rows - 0 ≡ length j.rows = omega arith in
    let empty : old_rows_behind j (taken_over j kept rows) ≡ [] =
    ap (old_rows_behind j) none ∙ ap (λ n. drop n j.rows) whole
    ∙ drop_all (length j.rows) j.rows (omega arith) in
    ap (λ rs. take kept j.rows ++ rows ++ map (shifted_row j.from j.to) rs) empty
    ∙ append-nil (take kept j.rows ++ rows)

module _ (old : DocState) (start end : ℕ) (new : List ℕ) (p : PreparedState)
    (doc : IsDocument old.text old.source_type old.commands old.report) (h : Prepares old start end new p) where
  abbrev j : JoiningState
  j = joining old start end new p.commands

  -- no row joins the old ones
  all_read : p.joined ≡ false → AreRows p.text old.source_type p.commands (all_rows j p.kept p.rows)
  all_read absent =
      let all = h.reads.all absent in
      let count : p.kept + length p.rows - 1 ≡ length p.commands = omega (arith, all) in
      subst (AreRows p.text old.source_type p.commands) (sym (none_behind j p.kept p.rows all))
      (subst (λ cs. AreRows p.text old.source_type cs (take p.kept old.report.rows ++ p.rows))
      (ap (λ n. take n p.commands) count ∙ take-length p.commands) h.reads.are)

  -- the last row that was read joins an old one
  joined_read : p.joined ≡ true → AreRows p.text old.source_type p.commands (all_rows j p.kept p.rows)
  joined_read present =
      let some = h.reads.some in
      let few = h.reads.few in
      let m = p.kept + length p.rows - 1 in
      let there =
      found_there (Joins j) p.kept p.rows m
      (subst
      (λ b. FirstFrom (Joins j) p.kept p.rows
      (joined_at b m)) present h.reads.first) in
      let joins = there.has in
      let i = joins.old_index in
      let behind = there.behind in
      let inside = there.inside in
      let long = count_rows old.text old.source_type old.commands old.report.rows doc.lasting doc.report_is.rows in
      let within = slice_get_within old.report.rows i joins.old_row joins.is_there in
      let fits : i ≤ length old.commands = omega (arith, within, long) in
      let same_count : length p.commands - m ≡ length old.commands - i =
      sym (length-drop m p.commands) ∙ ap length joins.commands_are ∙ length-drop i old.commands in
      let taken : length old.report.rows - taken_over j p.kept p.rows ≡ suc i =
      omega (arith, some, few, long, fits, same_count) in
      let on =
      old_runs_on old.text old.source_type old.commands old.report.rows i joins.old_row doc.lasting fits
      doc.report_is.rows joins.is_there in
      let later = map (shifted_row end (start + length new)) (drop (suc i) old.report.rows) in
      let last : length p.rows ≡ suc (m - p.kept) = omega (arith, some, behind, inside) in
      let all : AreRows p.text old.source_type (take m p.commands ++ drop m p.commands)
      ((take p.kept old.report.rows ++ p.rows) ++ later) =
      rows_go_on p.text old.source_type (take m p.commands) (drop m p.commands)
      (take p.kept old.report.rows ++ p.rows) later (take p.kept old.report.rows) p.rows (m - p.kept) there.row
      (take_lasting m p.commands h.lasting) refl last there.is_there h.reads.are
      (λ s here.
      subst (λ x. Run x old.source_type s (drop m p.commands) later) (sym h.text_is)
      (subst (λ cs. Run (edited old.text start end new) old.source_type s cs later) (sym joins.commands_are)
      (taken_over_rows old.text new start end old.source_type (drop i old.commands) (drop (suc i) old.report.rows)
      joins.old_row.token there.row.token s h.edit doc.report_is.utf8 (subst IsUtf8 h.text_is h.utf8)
      (drop_lasting i old.commands doc.lasting) joins.moved.behind_old joins.moved.same on
      (subst (λ x. GoesOnBehind x s there.row.token) h.text_is here)))) in
      subst (AreRows p.text old.source_type p.commands)
      (ap (λ n. take p.kept old.report.rows ++ p.rows ++ map (shifted_row end (start + length new))
      (drop n old.report.rows)) (sym taken))
      (subst (λ cs. AreRows p.text old.source_type cs ((take p.kept old.report.rows ++ p.rows) ++ later))
      (take-append-drop m p.commands) all)

  by_joined : (b : Bool) → p.joined ≡ b → AreRows p.text old.source_type p.commands (all_rows j p.kept p.rows)
  by_joined true present = joined_read present
  by_joined false absent = all_read absent

  -- All rows answer the commands over the new text.
  pub rows_of_edit : AreRows p.text old.source_type p.commands (all_rows j p.kept p.rows)
  rows_of_edit = by_joined p.joined refl
