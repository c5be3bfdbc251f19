-- The report of a source with JSX whose goals are chosen by the tokens.
use Rattle.std.specs.Prelude.{ℕ, Bool, List}
use Rattle.js_text.specs.declared.source_type.SourceType.{SourceType}
use Rattle.js_session.specs.declared.command.Command.{Command}
use Rattle.js_session.specs.declared.report.Report.{Report}
use Rattle.js_choose.specs.Faults.{ChoiceCause}
use Rattle.js_choose.specs.Rules.{ReportBy}
use Rattle.js_choose.specs.declared.fault.ChoiceFault.{ChoiceFault}
use Rattle.js_jsx.specs.Choice.{choice}

-- The report of a session over a source, with the commands that are chosen: each is the choice behind the tokens that
-- are live before it, and behind the last one there is none.
abbrev pub ReportOfChosen : List ℕ → SourceType → Bool → List Command → Report → Type 0
ReportOfChosen source t collects commands report = ReportBy choice source t collects commands report

-- the cause of a fault: the same as in a session with a list of commands
abbrev pub JsxCause : List ℕ → ChoiceFault → Type 0
JsxCause source fault = ChoiceCause source fault
