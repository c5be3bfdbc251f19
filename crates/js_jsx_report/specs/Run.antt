-- What a run of the program comes to.
use Rattle.std.specs.Prelude.{◌≡◌, ℕ, false, List, codes}
use Rattle.js_text.specs.declared.source_type.SourceType.TheVariants.{Module}
use Rattle.js_session.specs.declared.command.Command.{Command}
use Rattle.js_session.specs.declared.report.Report.{Report}
use Rattle.js_jsx.specs.Jsx.{ReportOfChosen}
use Rattle.js_lex_tool.specs.ReportText.{report_text_of}

abbrev pub js_jsx_report : List ℕ
js_jsx_report = codes "js_jsx_report"

-- it takes no arguments
abbrev pub js_jsx_report_usage : List ℕ
js_jsx_report_usage = codes "usage: js_jsx_report"

-- The text is that of the report of a module with the commands that are chosen.
pub record IsJsxText (source text : List ℕ) : Type 0 where
  pub commands : List Command
  pub report : Report
  pub chosen : ReportOfChosen source Module false commands report
  pub text_is : text ≡ report_text_of source report
