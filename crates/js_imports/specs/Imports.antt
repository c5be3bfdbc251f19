-- What a source imports and exports.
use Rattle.std.specs.Prelude.{◌≡◌, ℕ, Bool, false, List}
use Rattle.js_text.specs.declared.source_type.SourceType.{SourceType}
use Rattle.js_grammar.specs.Outcome.{Findings}
use Rattle.js_session.specs.declared.command.Command.{Command}
use Rattle.js_session.specs.declared.report.Report.{Report}
use Rattle.js_choose.specs.Rules.{ReportBy, Rule}
use Rattle.js_lists.specs.LiveLists.{live_taken}
use Rattle.js_lists.specs.Taken.{Taken}
use Rattle.js_imports.specs.Scans.{Scan, at_start, scanned, stepped, told}
use Rattle.js_imports.specs.declared.found.Found.{Found}

-- a token was taken
abbrev pub Steps : Scan → Taken → Scan → Type 0
Steps old x new = new ≡ stepped x old

-- what else is found of a source is passed over
abbrev pub PassesOver : Scan → Findings → Scan → Type 0
PassesOver old found new = new ≡ old

-- What tokens import and export, in the order in which it begins. It is told whether calls of `require` count.
abbrev pub imports_of : Bool → List Taken → List Found
imports_of counts taken = told (scanned (at_start counts) taken).found

-- What the live tokens of the report of a source import and export, whose goals the rule chooses.
pub record AreImportsOf (rule : Rule) (source : List ℕ) (t : SourceType) (counts : Bool) (found : List Found)
    : Type 0 where
  pub commands : List Command
  pub report : Report
  pub report_is : ReportBy rule source t false commands report
  pub found_are : found ≡ imports_of counts (live_taken commands report.rows)
