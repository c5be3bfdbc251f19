-- The report of a document, gathered from its rows.
use Rattle.std.proofs.Common.{◌≡◌, ℕ, true, List, sym, ◌∙◌, subst}
use Rattle.std.specs.List.{list_all}
use Rattle.js_text.specs.declared.source_type.SourceType.{SourceType}
use Rattle.js_session.specs.declared.report.Report.{Report}
use Rattle.js_session.specs.declared.row.Row.{Row}
use Rattle.js_session.specs.Effects.{is_lasting}
use Rattle.js_session.specs.Live.{live, nothing_live, report_live, report_with, state_after_first}
use Rattle.js_session.specs.Report.{AreRows}
use Rattle.js_choose.specs.Rules.{IsRule, Rule}
use Rattle.js_relex.specs.Documents.{IsGathered, live_behind}
use Rattle.js_relex.proofs.NewRows.{live_of_rows}
use Rattle.js_document.specs.Documents.{commands_of, report_of}
use Rattle.js_document.proofs.EditedRows.{AreChosenRows, chosen_lasts, commands_are}

-- what is live in it is what its rows make live
pub live_held : (rule : Rule) → IsRule rule → (text : List ℕ) (t : SourceType) (rows : List Row)
    → AreChosenRows rule text t rows → live (commands_of rows) rows ≡ live_behind nothing_live rows
live_held rule law text t rows a =
    let lasting = chosen_lasts rule law text (state_after_first a.first) a.commands a.behind a.chosen in
    let commands = commands_are rule law text t rows a in
    live_of_rows text t (commands_of rows) rows
    (subst (λ cs. list_all is_lasting cs ≡ true) (sym commands) lasting)
    (subst (λ cs. AreRows text t cs rows) (sym commands)
    (subst (AreRows text t a.commands) (sym a.rows_are) (a.is_first, a.run)))

pub gathered_held : (rule : Rule) → IsRule rule → (text : List ℕ) (t : SourceType) (rows : List Row) (report : Report)
    → AreChosenRows rule text t rows → IsGathered rows report → report ≡ report_of rows
gathered_held rule law text t rows report a gathered =
    let lists : report_live report ≡ live (commands_of rows) rows =
    gathered.live ∙ sym (live_held rule law text t rows a) in
    λ j. report_with (gathered.rows_are j) (gathered.collected j) (lists j)
