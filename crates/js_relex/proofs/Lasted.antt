-- The rows of a document: they stay, they answer its commands, and what is live is what they made live.
use Rattle.std.proofs.Common.{◌≡◌, ℕ, Bool, true, false, List, [], ◌∷◌, map, Some, None, refl, sym, ◌∙◌, ap, subst}
use Rattle.std.specs.Prelude.{MatchBool}
use Rattle.std.specs.List.{AllByRecursion, list_all}
use Rattle.std.proofs.lemmas.Bool.{and_parts}
use Rattle.js_text.specs.declared.source_type.SourceType.{SourceType}
use Rattle.js_session.specs.Restated.{no_findings}
use Rattle.js_session.specs.Restated.{fits}
use Rattle.js_session.specs.Restated.{token_or_default}
use Rattle.js_session.specs.declared.command.Command.{Command}
use Rattle.js_session.specs.declared.report.Report.{Report}
use Rattle.js_session.specs.declared.row.Row.{Row}
use Rattle.js_session.specs.Effects.{effect_of, is_lasting, lasts, row_effect}
use Rattle.js_session.specs.declared.command.Effect.{Effect}
use Rattle.js_session.specs.declared.command.Effect.TheVariants.{Reads, Peeks, ReLexes, Opens, Rewinds, Commits}
use Rattle.js_session.specs.Live.{Live, State, after_row, last_live, nothing_live, row_findings, state_after_first}
use Rattle.js_session.specs.Report.{AreRows, IsNotTaken, IsOfEffect, IsReLexed, IsRow, Run}
use Rattle.js_session.proofs.LastingRuns.{lasting_steps}
use Rattle.js_relex.specs.Documents.{IsDocument}
use Rattle.js_relex.specs.LiveLists.{HasLasted, Lasts}
use Rattle.js_relex.proofs.NewRows.{live_of_rows}

not_both : {A : Type 0} (b : Bool) → b ≡ true → b ≡ false → A
not_both b yes_is no_is = absurd (let no : true ≡ false = sym yes_is ∙ no_is in cc)

-- A row that was not taken has found nothing.
none_found : (text : List ℕ) (t : SourceType) (now : Live) (effect : Effect) (row : Row)
    → IsOfEffect text t now effect row → row.taken ≡ false → row_findings row ≡ no_findings
none_found text t now (Reads goal) row h e = not_both row.taken h.taken e
none_found text t now (Peeks goal) row h e = not_both row.taken h.taken e
none_found text t now (ReLexes goal) row h e = by_fits (fits text goal (token_or_default (last_live now))) h
  where
    by_fits : (b : Bool) → MatchBool b (IsReLexed text t now goal row) (IsNotTaken now row)
        → row_findings row ≡ no_findings
    by_fits true h = not_both row.taken h.taken e
    by_fits false h = h.findings
none_found text t now Opens row h e = absurd h
none_found text t now Rewinds row h e = absurd h
none_found text t now Commits row h e = absurd h

row_lasts : (text : List ℕ) (t : SourceType) (now : Live) (row : Row) (c : Command) → is_lasting c ≡ true
    → IsRow text t now (Some c) row → Lasts row
row_lasts text t now row c lasting is = record {
  lasting = ap (λ k. lasts (row_effect k)) is.command_is ∙ lasting;
  untaken = none_found text t now (row_effect (Some c)) row is.gives;
}

run_lasts : (text : List ℕ) (t : SourceType) (s : State) (commands : List Command) (rows : List Row)
    → list_all is_lasting commands ≡ true → Run text t s commands rows
    → AllByRecursion Lasts rows × (map (λ (row : Row). row.command) rows ≡ map Some commands)
run_lasts text t s [] rows lasting run =
    subst (λ rs. AllByRecursion Lasts rs × (map (λ (row : Row). row.command) rs ≡ map Some [])) (sym run) (tt, refl)
run_lasts text t s (c ∷ cs) [] lasting run =
    absurd
    (let step = lasting_steps c (and_parts (is_lasting c) (list_all is_lasting cs) lasting).0 in rw step at run)
run_lasts text t s (c ∷ cs) (row ∷ rows) lasting run =
    let both = and_parts (is_lasting c) (list_all is_lasting cs) lasting in
    let step = lasting_steps c both.0 in
    let run = rw step at run in
    let more = run_lasts text t (after_row (effect_of c) row s) cs rows both.1 run.1 in (
      (row_lasts text t s.now row c both.0 run.0, more.0),
      (λ i. run.0.command_is i ∷ more.1 i),
    )

-- Rows that answer commands a document may be given.
pub rows_last : (text : List ℕ) (t : SourceType) (commands : List Command) (rows : List Row)
    → list_all is_lasting commands ≡ true → AreRows text t commands rows
    → AllByRecursion Lasts rows × (map (λ (row : Row). row.command) rows ≡ None ∷ map Some commands)
rows_last text t commands [] lasting are = absurd are
rows_last text t commands (row ∷ rows) lasting are =
    let more = run_lasts text t (state_after_first row) commands rows lasting are.1 in
    let first : Lasts row =
    record {
      lasting = ap (λ k. lasts (row_effect k)) are.0.command_is;
      untaken = none_found text t nothing_live (row_effect None) row are.0.gives;
    } in
    ((first, more.0), (λ i. are.0.command_is i ∷ more.1 i))

-- The rows of a document.
pub has_lasted : (text : List ℕ) (t : SourceType) (commands : List Command) (report : Report)
    → IsDocument text t commands report → HasLasted commands report
has_lasted text t commands report doc =
    let rows = rows_last text t commands report.rows doc.lasting doc.report_is.rows in
    record {
      lasted = rows.0;
      commands_are = rows.1;
      live = doc.report_is.lists ∙ live_of_rows text t commands report.rows doc.lasting doc.report_is.rows;
    }
