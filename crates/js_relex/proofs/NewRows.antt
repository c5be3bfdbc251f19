-- What is live behind rows that are gathered is what is live behind the commands that they answer.
use Rattle.std.proofs.Common.{◌≡◌, ℕ, ◌<◌, Bool, true, false, List, [], ◌∷◌, length, refl, sym, ◌∙◌, ap, subst}
use Rattle.std.specs.Prelude.{◌^◌, if◌then◌else◌}
use Rattle.std.specs.List.{list_all}
use Rattle.std.specs.Str.{IsUtf8}
use Rattle.std.proofs.lemmas.Bool.{and_parts}
use Rattle.js_text.specs.declared.source_type.SourceType.{SourceType}
use Rattle.js_kind.specs.TokenParts.{TokenParts}
use Rattle.js_session.specs.declared.command.Command.{Command}
use Rattle.js_session.specs.declared.report.Report.{Report}
use Rattle.js_session.specs.declared.row.Row.{Row}
use Rattle.js_session.specs.Effects.{effect_of, is_lasting, row_effect}
use Rattle.js_session.specs.declared.command.Effect.{Effect}
use Rattle.js_session.specs.declared.command.Effect.TheVariants.{Reads, Peeks, ReLexes, Opens, Rewinds, Commits}
use Rattle.js_session.specs.Live.{State, after_row, live, nothing_live, outcome_of, state_after, state_after_first}
use Rattle.js_session.specs.Live.{with_re_lexed}
use Rattle.js_session.specs.Report.{AreRows, ReportOf, Run, all_collected}
use Rattle.js_session.proofs.LastingRuns.{lasting_steps}
use Rattle.js_session.proofs.RunLemmas.{state_step}
use Rattle.js_relex.specs.Documents.{IsGathered, live_behind}

-- what is live behind a row, whatever was live at open marks
live_of_row : (effect : Effect) (row : Row) (s : State)
    → (after_row effect row (record { now = s.now; marks = [] })).now ≡ (after_row effect row s).now
live_of_row (Reads goal) row s = refl
live_of_row (Peeks goal) row s = refl
live_of_row (ReLexes goal) row s = by_flag row.taken
  where
    by_flag : (b : Bool)
        → (if◌then◌else◌ {A = State} b (record { now = with_re_lexed s.now (outcome_of row); marks = [] })
        (record { now = s.now; marks = [] })).now
        ≡ (if◌then◌else◌ {A = State} b (record s { now = with_re_lexed s.now (outcome_of row) }) s).now
    by_flag true = refl
    by_flag false = refl
live_of_row Opens row s = refl
live_of_row Rewinds row s = refl
live_of_row Commits row s = refl

run_live : (text : List ℕ) (t : SourceType) (s : State) (commands : List Command) (rows : List Row)
    → list_all is_lasting commands ≡ true → Run text t s commands rows
    → live_behind s.now rows ≡ (state_after s commands rows).now
run_live text t s [] rows lasting run = rw run refl
run_live text t s (c ∷ cs) [] lasting run =
    absurd
    (let step = lasting_steps c (and_parts (is_lasting c) (list_all is_lasting cs) lasting).0 in rw step at run)
run_live text t s (c ∷ cs) (row ∷ rows) lasting run =
    let both = and_parts (is_lasting c) (list_all is_lasting cs) lasting in
    let step = lasting_steps c both.0 in
    let run = rw step at run in
    let one =
    ap (λ e. (after_row (row_effect e) row (record { now = s.now; marks = [] })).now) run.0.command_is
    ∙ live_of_row (effect_of c) row s in
    ap (λ l. live_behind l rows) one
    ∙ run_live text t (after_row (effect_of c) row s) cs rows both.1 run.1
    ∙ ap (λ (x : State). x.now) (sym (state_step s c cs row rows step))

-- what is live behind the commands is what their rows make live
pub live_of_rows : (text : List ℕ) (t : SourceType) (commands : List Command) (rows : List Row)
    → list_all is_lasting commands ≡ true → AreRows text t commands rows
    → live commands rows ≡ live_behind nothing_live rows
live_of_rows text t commands [] lasting are = absurd are
live_of_rows text t commands (row ∷ rows) lasting are =
    sym
    (ap (λ e. live_behind (after_row (row_effect e) row (record { now = nothing_live; marks = [] })).now rows)
    are.0.command_is
    ∙ run_live text t (state_after_first row) commands rows lasting are.1)

-- where no tokens are collected, none is
pub none_collected : (tokens : List TokenParts) → all_collected false tokens ≡ []
none_collected [] = refl
none_collected (t ∷ ts) = none_collected ts

-- A report that is gathered from the rows of the commands is the report of these.
pub gathered_report : (text : List ℕ) (t : SourceType) (commands : List Command) (rows : List Row) (report : Report)
    → IsUtf8 text → length text < 2 ^ 32 → list_all is_lasting commands ≡ true → AreRows text t commands rows
    → IsGathered rows report → ReportOf text t false commands report
gathered_report text t commands [] report u short lasting are g = absurd are
gathered_report text t commands (row ∷ rows) report u short lasting are g = record {
  utf8 = u;
  short = short;
  rows = subst (AreRows text t commands) (sym g.rows_are) are;
  lists =
      g.live ∙ sym (live_of_rows text t commands (row ∷ rows) lasting are) ∙ ap (live commands) (sym g.rows_are);
  collected_are = g.collected ∙ sym (none_collected report.tokens);
}
