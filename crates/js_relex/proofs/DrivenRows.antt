-- The rows of a session that was driven.
use Rattle.std.proofs.Common.{◌≡◌, ℕ, ◌+◌, ◌<◌, Bool, true, List, [], ◌∷◌, length, sym, ◌∙◌, ap, subst, arith}
use Rattle.std.specs.Prelude.{◌^◌}
use Rattle.std.specs.List.{list_all}
use Rattle.std.specs.Str.{IsUtf8}
use Rattle.js_text.specs.declared.source_type.SourceType.{SourceType}
use Rattle.js_kind.specs.TokenParts.{TokenParts}
use Rattle.js_session.specs.declared.command.Command.{Command}
use Rattle.js_session.specs.declared.row.Row.{Row}
use Rattle.js_session.specs.Effects.{is_lasting}
use Rattle.js_session.specs.Live.{State, state_after_first}
use Rattle.js_session.specs.Report.{ReportOf, Run}
use Rattle.js_session.specs.Session.{Begins, RunsFrom, SessionState, report_of, resumed, state_behind}
use Rattle.js_session.proofs.LastingRuns.{all_steps}
use Rattle.js_session.proofs.RunsOn.{run_begins, run_reports, run_resumed}
use Rattle.js_relex.proofs.Lasting.{run_length}

-- what a step for each command makes of a session
abbrev pub RunsAll : List Command → SessionState → SessionState → Type 0
RunsAll commands old new =
    (text : List ℕ) (t : SourceType) (collects : Bool) (start : State) (before : List Row)
    → RunsFrom text t collects start before [] old → RunsFrom text t collects start before commands new

-- The rows behind a token are those of the commands, and so many.
pub record DrivenBehind (text : List ℕ) (t : SourceType) (token : TokenParts) (commands : List Command)
    (rows : List Row) : Type 0 where
  pub run : Run text t (state_behind token) commands rows
  pub count_is : length rows ≡ length commands

pub driven_behind : (text : List ℕ) (t : SourceType) (collects : Bool) (token : TokenParts) (commands : List Command)
    (old new : SessionState) → list_all is_lasting commands ≡ true → old ≡ resumed text t collects token
    → RunsAll commands old new → DrivenBehind text t token commands new.rows
driven_behind text t collects token commands old new lasting is all =
    let runs =
    all text t collects (state_behind token) []
    (subst (RunsFrom text t collects (state_behind token) [] []) (sym is) (run_resumed text t collects token)) in
    let long =
    run_length text t (state_behind token) commands runs.rows (all_steps commands lasting) runs.answers in
    record {
      run = subst (Run text t (state_behind token) commands) (sym runs.rows_are) runs.answers;
      count_is = ap length runs.rows_are ∙ long;
    }

-- The report of a session from the start is that of the commands, with a row for each and the first one.
pub record DrivenWhole (text : List ℕ) (t : SourceType) (collects : Bool) (commands : List Command) (s : SessionState)
    : Type 0 where
  pub report_is : ReportOf text t collects commands (report_of s)
  pub count_is : length s.rows ≡ length commands + 1

pub driven_from_start : (text : List ℕ) (t : SourceType) (collects : Bool) (commands : List Command)
    (old new : SessionState) → IsUtf8 text → length text < 2 ^ 32 → list_all is_lasting commands ≡ true
    → Begins text t collects old → RunsAll commands old new → DrivenWhole text t collects commands new
driven_from_start text t collects commands old new utf8 short lasting begins all =
    let begun = run_begins text t collects old begins in
    let runs = all text t collects (state_after_first begun.first) (begun.first ∷ []) begun.runs in
    let long =
    run_length text t (state_after_first begun.first) commands runs.rows (all_steps commands lasting) runs.answers in
    record {
      report_is =
          run_reports text t collects commands new utf8 short
          (record { first = begun.first; is_first = begun.is_first; runs = runs });
      count_is = let same = ap length runs.rows_are in omega (arith, same, long);
    }
