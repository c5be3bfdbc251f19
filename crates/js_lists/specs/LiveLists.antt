-- What is live of a report, and what takes it.
use Rattle.std.specs.Prelude.{◌≡◌, ℕ, false, List, map}
use Rattle.js_text.specs.declared.source_type.SourceType.{SourceType}
use Rattle.js_grammar.specs.Outcome.{Findings}
use Rattle.js_session.specs.Live.{report_live}
use Rattle.js_session.specs.Report.{ReportOf}
use Rattle.js_session.specs.declared.command.Command.{Command}
use Rattle.js_session.specs.declared.report.Report.{Report}
use Rattle.js_session.specs.declared.row.Row.{Row}
use Rattle.js_choose.specs.Rules.{ReportBy, Rule}
use Rattle.js_lists.specs.LiveRows.{live_rows}
use Rattle.js_lists.specs.Taken.{Taken, TakesEach}

-- the token of a row, with the value and the regular expression of that row
abbrev pub taken_of : Row → Taken
taken_of row = record { token = row.token; value = row.value; regex = row.regex }

-- the tokens of the rows that are live after the commands
abbrev pub live_taken : List Command → List Row → List Taken
live_taken commands rows = map taken_of (live_rows commands rows)

-- what is live of what was found
abbrev pub live_found : Report → Findings
live_found report = (report_live report).findings

-- What is live of the report of these commands was taken: the token of each live row, once, in order, with the value
-- and the regular expression of that row; and then what was found. These are the live tokens of the report.
pub record TakesReport {S : Type 0} (takes : S → Taken → S → Type 0) (ends : S → Findings → S → Type 0)
    (commands : List Command) (report : Report) (old new : S) : Type 0 where
  pub behind : S
  pub takes_each : TakesEach takes old (live_taken commands report.rows) behind
  pub after : ends behind (live_found report) new
  pub tokens_are : map (λ x. x.token) (live_taken commands report.rows) ≡ report.tokens

-- What is live of the report of a source whose goals a rule chooses was taken.
pub record TakesChosen {S : Type 0} (takes : S → Taken → S → Type 0) (ends : S → Findings → S → Type 0) (rule : Rule)
    (source : List ℕ) (t : SourceType) (old new : S) : Type 0 where
  pub commands : List Command
  pub report : Report
  pub report_is : ReportBy rule source t false commands report
  pub taken : TakesReport takes ends commands report old new

-- What is live of the report of a source and these commands was taken.
pub record TakesCommands {S : Type 0} (takes : S → Taken → S → Type 0) (ends : S → Findings → S → Type 0)
    (commands : List Command) (source : List ℕ) (t : SourceType) (old new : S) : Type 0 where
  pub report : Report
  pub report_is : ReportOf source t false commands report
  pub taken : TakesReport takes ends commands report old new
