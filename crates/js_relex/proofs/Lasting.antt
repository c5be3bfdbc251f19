-- Commands that a document may be given, and sessions that follow them.
use Rattle.std.proofs.Common.{◌≡◌, ℕ, ◌+◌, ◌<◌, Bool, true, false, List, [], ◌∷◌, length, take, suc, sym, ◌∙◌, ap}
use Rattle.std.proofs.Common.{subst, arith, get_or, zero}
use Rattle.std.specs.List.{list_all}
use Rattle.std.proofs.Math.Seq.{take-suc}
use Rattle.std.proofs.lemmas.Bool.{and_parts}
use Rattle.js_text.specs.declared.source_type.SourceType.{SourceType}
use Rattle.js_session.specs.declared.command.Command.{Command}
use Rattle.js_session.specs.declared.row.Row.{Row}
use Rattle.js_session.specs.Effects.{effect_of, is_lasting, is_step}
use Rattle.js_session.specs.Live.{State, after_row}
use Rattle.js_session.specs.Report.{HasMark, Run}
use Rattle.js_session.specs.Session.{AddsRow, Follows, RunsFrom, SessionState}
use Rattle.js_session.proofs.LastingRuns.{lasting_closes, lasting_steps}
use Rattle.js_session.proofs.RunsOn.{run_on}

pub lasting_at : (cs : List Command) (index : ℕ) (d : Command) → list_all is_lasting cs ≡ true → index < length cs
    → is_lasting (get_or cs index d) ≡ true
lasting_at [] index d e some = absurd (omega (arith, some))
lasting_at (c ∷ cs) zero d e some = (and_parts (is_lasting c) (list_all is_lasting cs) e).0
lasting_at (c ∷ cs) (suc index) d e some =
    lasting_at cs index d (and_parts (is_lasting c) (list_all is_lasting cs) e).1 (omega (arith, some))

-- one step more of a session
pub runs_more : (text : List ℕ) (t : SourceType) (collects : Bool) (start : State) (before : List Row)
    (commands : List Command) (index : ℕ) (d : Command) (old new : SessionState) → index < length commands
    → is_lasting (get_or commands index d) ≡ true
    → RunsFrom text t collects start before (take index commands) old → AddsRow (get_or commands index d) old new
    → RunsFrom text t collects start before (take (index + 1) commands) new
runs_more text t collects start before commands index d old new some lasting h a =
    let command = get_or commands index d in
    let one : suc index ≡ index + 1 = omega arith in
    let none : HasMark command old.state =
    λ e. absurd (let no : true ≡ false = sym e ∙ lasting_closes command lasting in cc) in
    let follows : Follows command old new = rw (lasting_steps command lasting) a in
    subst (λ n. RunsFrom text t collects start before (take n commands) new) one
    (subst (λ cs. RunsFrom text t collects start before cs new) (sym (take-suc commands index d some))
    (run_on text t collects start before (take index commands) command old new h none follows))

-- a run of steps has a row for each
pub run_length : (text : List ℕ) (t : SourceType) (s : State) (commands : List Command) (rows : List Row)
    → list_all is_step commands ≡ true → Run text t s commands rows → length rows ≡ length commands
run_length text t s [] rows steps run = ap length run
run_length text t s (c ∷ cs) [] steps run =
    absurd (let step = (and_parts (is_step c) (list_all is_step cs) steps).0 in rw step at run)
run_length text t s (c ∷ cs) (row ∷ rows) steps run =
    let both = and_parts (is_step c) (list_all is_step cs) steps in
    let run = rw both.0 at run in
    ap suc (run_length text t (after_row (effect_of c) row s) cs rows both.1 run.1)
