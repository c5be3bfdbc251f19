-- Sources as pages, by their reports.
use Rattle.std.specs.Prelude.{◌≡◌, ℕ, false, List, [], ◌++◌}
use Rattle.js_choose.specs.Rules.{ReportBy, Rule}
use Rattle.js_grammar.specs.Outcome.{Findings}
use Rattle.js_kind.specs.TokenParts.{TokenParts}
use Rattle.js_lists.specs.LiveLists.{live_found}
use Rattle.js_page.specs.Fragment.{ShowsBehind}
use Rattle.js_page.specs.Whole.{page_head}
use Rattle.js_page.specs.declared.whole.TheConstants.{PAGE_END}
use Rattle.js_page.specs.declared.writing.Fault.{Fault}
use Rattle.js_session.specs.declared.command.Command.{Command}
use Rattle.js_session.specs.declared.report.Report.{Report}
use Rattle.js_text.specs.declared.source_type.SourceType.{SourceType}
use Rattle.js_html.specs.Faults.{AreInOrder, faults_of}
use Rattle.js_html.specs.declared.source.Form.{Form}
use Rattle.js_html.specs.declared.source.Form.TheVariants.{Fragment, Page}

-- The text shows these tokens and what was found behind what stands before, with the faults in order of place.
pub record ShowsFound (before source : List ℕ) (tokens : List TokenParts) (found : Findings) (text : List ℕ)
    : Type 0 where
  pub faults : List Fault
  pub in_order : AreInOrder (faults_of found) faults
  pub shows : ShowsBehind before source tokens found.comments faults text

-- The text is that of these tokens and what was found in a form: the elements alone, or a page with a title.
abbrev pub IsInForm : Form → List ℕ → List TokenParts → Findings → List ℕ → Type 0
IsInForm Fragment source tokens found text = ShowsFound [] source tokens found text
IsInForm (Page title) source tokens found text =
    (shown : List ℕ) × ShowsFound (page_head title.now) source tokens found shown × (text ≡ shown ++ PAGE_END.now)

-- The text is a source in a form: with the live tokens and comments of the report of the source, whose goals the rule
-- chooses, and its faults.
pub record IsHtml (rule : Rule) (form : Form) (source : List ℕ) (t : SourceType) (text : List ℕ) : Type 0 where
  pub commands : List Command
  pub report : Report
  pub report_is : ReportBy rule source t false commands report
  pub in_form : IsInForm form source report.tokens (live_found report) text
