-- What writing a source anew comes to.
use Rattle.std.specs.Prelude.{◌≡◌, ℕ, true, false, List, [], string_bytes}
use Rattle.js_auto.specs.Auto.{ReportOfChosen}
use Rattle.js_auto.specs.Choice.{choice_in}
use Rattle.js_session.specs.Report.{ReportOf}
use Rattle.js_session.specs.SameRows.{SameRows}
use Rattle.js_session.specs.declared.command.Command.{Command}
use Rattle.js_session.specs.declared.report.Report.{Report}
use Rattle.js_squeeze.specs.SqueezeText.{squeeze_text}
use Rattle.js_strip.specs.StripText.{strip_text}
use Rattle.js_text.specs.declared.source_type.SourceType.{SourceType}
use Rattle.js_totsenak.specs.Checked.{IsChecked}
use Rattle.js_totsenak.specs.declared.rewritten.Rewriting.{Rewriting}
use Rattle.js_totsenak.specs.declared.rewritten.Rewriting.TheVariants.{Strip, Squeeze}
use Rattle.js_totsenak.specs.declared.rewritten.Rewritten.{Rewritten}
use Rattle.js_totsenak.specs.declared.rewritten.Rewritten.TheVariants.{Text, Refused}

-- the text of a source that is written anew, by its report
abbrev pub text_by : Rewriting → List ℕ → Report → List ℕ
text_by Strip source report = strip_text source report.comments
text_by Squeeze source report = squeeze_text source report

-- The text is the source, written anew by its report. The rows of the two have the same tokens, and in the report of
-- the text are no diagnostic and no comment.
pub record IsAnew (rewriting : Rewriting) (source : List ℕ) (t : SourceType) (commands : List Command)
    (report : Report) (text : List ℕ) : Type 0 where
  pub text_is : text ≡ text_by rewriting source report
  pub after : Report
  pub after_is : ReportOf text t false commands after
  pub same : SameRows source report text after

-- The same by the report of these commands.
pub record IsAnewWith (rewriting : Rewriting) (source : List ℕ) (t : SourceType) (commands : List Command)
    (text : List ℕ) : Type 0 where
  pub report : Report
  pub report_is : ReportOf source t false commands report
  pub anew : IsAnew rewriting source t commands report text

-- The commands are those that are chosen for a source, and its report has no diagnostic.
pub record IsFaultless (source : List ℕ) (t : SourceType) (commands : List Command) : Type 0 where
  pub report : Report
  pub report_is : ReportOfChosen source t false commands report
  pub clean : report.diagnostics ≡ []

-- The text is the source, written anew by the report of the commands that are chosen for it, which has no diagnostic.
pub record IsChosenAnew (rewriting : Rewriting) (source : List ℕ) (t : SourceType) (text : List ℕ) : Type 0 where
  pub commands : List Command
  pub report : Report
  pub report_is : ReportOfChosen source t false commands report
  pub clean : report.diagnostics ≡ []
  pub anew : IsAnew rewriting source t commands report text

-- What writing a source with a name anew comes to: its text; or, where its report has a diagnostic, what `check` tells.
abbrev pub IsRewritten : Rewriting → List ℕ → List ℕ → SourceType → Rewritten → Type 0
IsRewritten rewriting name source t (Text text) = IsChosenAnew rewriting source t text
IsRewritten rewriting name source t (Refused told) = IsChecked choice_in name source t (string_bytes told) true
