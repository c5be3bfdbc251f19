-- What is found of a source.
use Rattle.std.specs.Prelude.{◌≡◌, ℕ, false, List}
use Rattle.js_choose.specs.Rules.{ReportBy, Rule}
use Rattle.js_grammar.specs.Outcome.{Findings}
use Rattle.js_lists.specs.LiveLists.{live_found}
use Rattle.js_lists.specs.Taken.{Taken}
use Rattle.js_session.specs.declared.command.Command.{Command}
use Rattle.js_session.specs.declared.report.Report.{Report}
use Rattle.js_text.specs.declared.source_type.SourceType.{SourceType}
use Rattle.js_totsenak.specs.declared.found.FindingsTaker.{FindingsTaker}

-- a token was taken, of which nothing is kept
abbrev pub KeepsNothing : FindingsTaker → Taken → FindingsTaker → Type 0
KeepsNothing old x new = new ≡ old

-- what was found was taken
abbrev pub KeepsFound : FindingsTaker → Findings → FindingsTaker → Type 0
KeepsFound old found new = new.found ≡ found

-- It is what is live of what the report of the source has found, whose goals the rule chooses.
pub record IsFound (rule : Rule) (source : List ℕ) (t : SourceType) (found : Findings) : Type 0 where
  pub commands : List Command
  pub report : Report
  pub report_is : ReportBy rule source t false commands report
  pub found_is : found ≡ live_found report
