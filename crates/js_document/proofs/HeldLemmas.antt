-- What is known of a document that holds its rows.
use Rattle.std.proofs.Common.{◌≡◌, ℕ, ◌+◌, ◌-◌, ◌<◌, ◌≤◌, true, false, List, [], ◌∷◌, length, refl, sym, ◌∙◌}
use Rattle.std.proofs.Common.{ap, subst, arith, Some, None, take, zero-add}
use Rattle.std.specs.List.{AllByRecursion, list_all}
use Rattle.std.specs.Prelude.{◌^◌, slice_get}
use Rattle.std.specs.Str.{IsUtf8}
use Rattle.js_text.specs.declared.source_type.SourceType.{SourceType}
use Rattle.js_session.specs.declared.command.Command.{Command}
use Rattle.js_session.specs.declared.row.Row.{Row}
use Rattle.js_session.specs.Effects.{is_lasting}
use Rattle.js_session.specs.Live.{live, nothing_live, state_after_first}
use Rattle.js_session.specs.Report.{AreRows}
use Rattle.js_session.specs.Shifted.{OfEachPlace}
use Rattle.js_session.proofs.LastingRuns.{all_steps}
use Rattle.js_session.proofs.RowsWithin.{row_weaker, rows_within}
use Rattle.js_choose.specs.Rules.{IsRule, ReportBy, Rule}
use Rattle.js_choose.proofs.ChosenLemmas.{chosen_from, rule_steps}
use Rattle.js_relex.proofs.NewRows.{live_of_rows}
use Rattle.js_document.specs.declared.gap.Entry.{Entry}
use Rattle.js_document.specs.Documents.{commands_of, report_of}
use Rattle.js_document.specs.Gap.{MayPad, count_tokens, rows_of}
use Rattle.js_document.specs.Reading.{with_rows}
use Rattle.js_document.proofs.EditedRows.{AreChosenRows, chosen_lasts, commands_are}
use Rattle.js_document.proofs.OrderLemmas.{IsSound, rows_ordered}
use Rattle.js_document.proofs.TokenLemmas.{live_tokens, rows_length}

-- The rows of a report by the rule are rows whose commands are chosen.
pub chosen_of_report : (rule : Rule) → IsRule rule → (text : List ℕ) (t : SourceType) (commands : List Command)
    (rows : List Row) → AreRows text t commands rows
    → ((index : ℕ) (command : Command) → slice_get commands index ≡ Some command
    → rule text (live (take index commands) rows).tokens ≡ Some command) → rule text (live commands rows).tokens ≡ None
    → AreChosenRows rule text t rows
chosen_of_report rule law text t commands [] are each stops = absurd are
chosen_of_report rule law text t commands (row ∷ rows) are each stops = record {
  first = row;
  behind = rows;
  commands = commands;
  rows_are = refl;
  is_first = are.0;
  run = are.1;
  chosen =
      chosen_from (rule text) (rule_steps rule law text) text t (state_after_first row) commands rows are.1 each stops;
}

pub held_rows : (rule : Rule) → IsRule rule → (text : List ℕ) (t : SourceType) (rows : List Row)
    → ReportBy rule text t false (commands_of rows) (report_of rows) → AreChosenRows rule text t rows
held_rows rule law text t rows r =
    chosen_of_report rule law text t (commands_of rows) rows r.report_is.rows r.chosen.each r.chosen.stops

-- the live tokens of their report
pub report_tokens : (rule : Rule) → IsRule rule → (text : List ℕ) (t : SourceType) (rows : List Row)
    → AreChosenRows rule text t rows → (report_of rows).tokens ≡ with_rows [] rows
report_tokens rule law text t rows a =
    let lasting = chosen_lasts rule law text (state_after_first a.first) a.commands a.behind a.chosen in
    let commands = commands_are rule law text t rows a in
    let are : AreRows text t (commands_of rows) rows =
    subst (λ cs. AreRows text t cs rows) (sym commands)
    (subst (AreRows text t a.commands) (sym a.rows_are) (a.is_first, a.run)) in
    ap (λ l. l.tokens)
    (live_of_rows text t (commands_of rows) rows (subst (λ cs. list_all is_lasting cs ≡ true) (sym commands) lasting) are)
    ∙ live_tokens nothing_live rows

pub report_count : (rule : Rule) → IsRule rule → (text : List ℕ) (t : SourceType) (rows : List Row)
    → AreChosenRows rule text t rows → length (report_of rows).tokens ≡ count_tokens rows
report_count rule law text t rows a =
    ap (λ l. length l) (report_tokens rule law text t rows a) ∙ rows_length rows []
    ∙ zero-add (count_tokens rows)

-- each of their places is one of the text
pub places_within : (rule : Rule) → IsRule rule → (text : List ℕ) (t : SourceType) (rows : List Row) → IsUtf8 text
    → AreChosenRows rule text t rows → AllByRecursion (OfEachPlace (λ place. place ≤ length text)) rows
places_within rule law text t rows u a =
    let lasting = chosen_lasts rule law text (state_after_first a.first) a.commands a.behind a.chosen in
    rows_within text t a.commands rows u (all_steps a.commands lasting)
    (subst (AreRows text t a.commands) (sym a.rows_are) (a.is_first, a.run))

module _ {K : Type 0} where
  -- so they may be padded
  pub may_pad : (text : List ℕ) (pad : ℕ) → pad + length text ≡ 2 ^ 32 - 1 → (es : List (Entry K))
      → AllByRecursion (OfEachPlace (λ place. place ≤ length text)) (rows_of {K = K} es)
      → AllByRecursion (IsSound text) (rows_of {K = K} es) → AllByRecursion (MayPad {K = K} pad) es
  may_pad text pad is [] within sound = tt
  may_pad text pad is (e ∷ es) within sound = (
    record {
      places =
          row_weaker (λ place. place ≤ length text) (λ place. place + pad < 2 ^ 32)
          (λ place less. omega (arith, less, is)) e.row within.0;
      ordered = sound.0.lies.ordered;
    },
    may_pad text pad is es within.1 sound.1,
  )

  pub held_may_pad : (rule : Rule) → IsRule rule → (text : List ℕ) (t : SourceType) (pad : ℕ) (es : List (Entry K))
      → IsUtf8 text → pad + length text ≡ 2 ^ 32 - 1 → AreChosenRows rule text t (rows_of {K = K} es)
      → AllByRecursion (MayPad {K = K} pad) es
  held_may_pad rule law text t pad es u is a =
      may_pad text pad is es (places_within rule law text t (rows_of {K = K} es) u a)
      (rows_ordered rule law text t (rows_of {K = K} es) u a).sound
