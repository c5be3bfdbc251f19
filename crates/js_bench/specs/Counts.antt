-- What a pass counts.
use Rattle.std.specs.Prelude.{◌≡◌, ℕ, Bool, true, false, List, length}
use Rattle.js_text.specs.declared.source_type.SourceType.{SourceType}
use Rattle.js_session.specs.declared.command.Command.{Command}
use Rattle.js_session.specs.declared.report.Report.{Report}
use Rattle.js_choose.specs.Rules.{ReportBy, Rule}
use Rattle.js_auto.specs.Choice.{choice_in}
use Rattle.js_jsx.specs.Choice.{choice}
use Rattle.js_lists.specs.Lists.{ListsOfChosen}
use Rattle.js_lists.specs.declared.lists.LiveLists.{LiveLists}
use Rattle.js_bench.specs.declared.pass.GoalRule.{GoalRule}
use Rattle.js_bench.specs.declared.pass.GoalRule.TheVariants.{Auto, Jsx}
use Rattle.js_bench.specs.declared.pass.Kept.{Kept}
use Rattle.js_bench.specs.declared.pass.Kept.TheVariants.{Nothing, Tokens, Lists}
use Rattle.js_bench.specs.declared.pass.PassCounts.{PassCounts}

-- how many tokens, comments and diagnostics of a report are live
abbrev pub counts_of : Report → PassCounts
counts_of report = record {
  tokens = length report.tokens;
  comments = length report.comments;
  diagnostics = length report.diagnostics;
}

-- The counts of a pass over a source: those of the report with the commands that a rule chooses, of which there is one.
pub record IsPassOver (rule : Rule) (source : List ℕ) (t : SourceType) (collects : Bool) (counts : PassCounts)
    : Type 0 where
  pub commands : List Command
  pub report : Report
  pub report_is : ReportBy rule source t collects commands report
  pub counts_are : counts ≡ counts_of report

-- how many tokens, comments and diagnostics are listed
abbrev pub counts_of_lists : LiveLists → PassCounts
counts_of_lists lists = record {
  tokens = length lists.tokens;
  comments = length lists.found.comments;
  diagnostics = length lists.found.diagnostics;
}

-- The counts of a pass that lists what is live of a source whose goals a rule chooses: those of the lists.
pub record IsListingOf (rule : Rule) (source : List ℕ) (t : SourceType) (counts : PassCounts) : Type 0 where
  pub lists : LiveLists
  pub lists_are : ListsOfChosen rule source t lists
  pub counts_are : counts ≡ counts_of_lists lists

-- The counts of a pass, by what it keeps of the tokens.
abbrev pub IsPass : Kept → Rule → List ℕ → SourceType → PassCounts → Type 0
IsPass Nothing rule source t counts = IsPassOver rule source t false counts
IsPass Tokens rule source t counts = IsPassOver rule source t true counts
IsPass Lists rule source t counts = IsListingOf rule source t counts

-- the rule by which goals are chosen: that of js_auto, or that of js_jsx
abbrev pub rule_of : GoalRule → Rule
rule_of Auto = choice_in
rule_of Jsx = choice
