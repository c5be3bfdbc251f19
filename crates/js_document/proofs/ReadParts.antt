-- Rows that were read, behind kept ones or from the start, as rows of the text up to the last of them.
use Rattle.std.proofs.Common.{◌≡◌, ℕ, true, List, [], ◌∷◌, ◌++◌}
use Rattle.std.proofs.Common.{sym, ◌∙◌, ap, Option, Some, None}
use Rattle.std.specs.List.{list_all}
use Rattle.js_text.specs.declared.source_type.SourceType.{SourceType}
use Rattle.js_session.specs.declared.command.Command.{Command}
use Rattle.js_session.specs.declared.row.Row.{Row}
use Rattle.js_session.specs.Effects.{effect_of, is_lasting, row_effect}
use Rattle.js_session.specs.Live.{State, after_row, last_live, nothing_live, state_after_first}
use Rattle.js_session.specs.Report.{IsRow, Run}
use Rattle.js_session.specs.Session.{last_token}
use Rattle.js_session.proofs.LastingRuns.{GoesOnBehind, all_steps, behind_first}
use Rattle.js_session.proofs.LocalRuns.{run_of_last}
use Rattle.js_choose.specs.Rules.{IsRule, Rule}
use Rattle.js_choose.proofs.ChosenLemmas.{ChosenFrom}
use Rattle.js_document.specs.declared.gap.Entry.{Entry}
use Rattle.js_document.specs.declared.open.Node.{Node}
use Rattle.js_document.specs.Gap.{rows_of}
use Rattle.js_document.specs.Reading.{ChosenOn, JoiningState, Knowledge, ReadsBehind, ReadsFromStart, state_of}
use Rattle.js_document.specs.Reading.{with_rows}
use Rattle.js_document.specs.States.{Alikeness}
use Rattle.js_document.proofs.EditedRows.{AreChosenRows, chosen_glued, chosen_of_tokens, goes_on_rows, on_glued, on_lasts}
use Rattle.js_document.proofs.EditedRows.{on_rows, run_glued}
use Rattle.js_document.proofs.TokenLemmas.{rows_tokens}

-- Rows of a text up to one of them, with the commands that the rule chooses.
pub record AreReadRows (rule : Rule) (text : List ℕ) (t : SourceType) (rows : List Row) : Type 0 where
  pub first : Row
  pub behind : List Row
  pub commands : List Command
  pub rows_are : rows ≡ first ∷ behind
  pub is_first : IsRow text t nothing_live None first
  pub run : Run text t (state_after_first first) commands behind
  pub chosen : ChosenOn rule text (state_after_first first) commands behind

module _ (rule : Rule) (law : IsRule rule) (text : List ℕ) (t : SourceType) where
  -- the state behind them
  abbrev pub state_of_read : (rows : List Row) → AreReadRows rule text t rows → State
  state_of_read rows r = on_rows (state_after_first r.first) r.commands r.behind

  pub read_lasts : (rows : List Row) → (r : AreReadRows rule text t rows) → list_all is_lasting r.commands ≡ true
  read_lasts rows r = on_lasts rule law text (state_after_first r.first) r.commands r.behind r.chosen

  pub first_tokens : (first : Row) → IsRow text t nothing_live None first
      → (behind : List Row) → with_rows [] (first ∷ behind) ≡ with_rows (state_after_first first).now.tokens behind
  first_tokens first is behind =
      ap (λ ts. with_rows ts behind)
      (ap (λ o. (after_row (row_effect o) first (state_of [])).now.tokens) is.command_is)

  pub read_tokens : (rows : List Row) → (r : AreReadRows rule text t rows)
      → (state_of_read rows r).now.tokens ≡ with_rows [] rows
  read_tokens rows r =
      rows_tokens text t (state_after_first r.first) r.commands r.behind (read_lasts rows r) r.run
      ∙ sym (first_tokens r.first r.is_first r.behind) ∙ ap (with_rows []) (sym r.rows_are)

  pub read_goes : (rows : List Row) → (r : AreReadRows rule text t rows)
      → GoesOnBehind text (state_of_read rows r) (last_token r.first.token r.behind)
  read_goes rows r =
      goes_on_rows text t (state_after_first r.first) r.commands r.behind r.first.token (read_lasts rows r)
      (behind_first text t r.first r.is_first) r.run

  -- where no command is chosen behind them, they are all
  pub read_all : (rows : List Row) → (r : AreReadRows rule text t rows) → rule text (with_rows [] rows) ≡ None
      → AreChosenRows rule text t rows
  read_all rows r stops = record {
    first = r.first;
    behind = r.behind;
    commands = r.commands;
    rows_are = r.rows_are;
    is_first = r.is_first;
    run = r.run;
    chosen = ends (state_after_first r.first) r.commands r.behind r.chosen
        (ap (rule text) (read_tokens rows r) ∙ stops);
  }
    where
      ends : (s : State) (commands : List Command) (rows : List Row) → ChosenOn rule text s commands rows
          → rule text (on_rows s commands rows).now.tokens ≡ None → ChosenFrom (rule text) s commands rows
      ends s [] rows chosen stops = stops
      ends s (c ∷ cs) [] chosen stops = absurd chosen
      ends s (c ∷ cs) (row ∷ rows) chosen stops =
          (chosen.0, ends (after_row (effect_of c) row s) cs rows chosen.1 stops)

  -- rows that are chosen behind them
  pub read_joined : (rows later : List Row) (more : List Command) → (r : AreReadRows rule text t rows)
      → Run text t (state_of_read rows r) more later → ChosenFrom (rule text) (state_of_read rows r) more later
      → AreChosenRows rule text t (rows ++ later)
  read_joined rows later more r run chosen = record {
    first = r.first;
    behind = r.behind ++ later;
    commands = r.commands ++ more;
    rows_are = ap (λ rs. rs ++ later) r.rows_are;
    is_first = r.is_first;
    run = run_glued text t (state_after_first r.first) r.commands more r.behind later (read_lasts rows r) r.run run;
    chosen = chosen_glued rule text (state_after_first r.first) r.commands more r.behind later r.chosen chosen;
  }

  -- rows that were read behind the tokens that are live behind them
  pub read_more : (rows later : List Row) (more : List Command) → (r : AreReadRows rule text t rows)
      → Run text t (state_of (with_rows [] rows)) more later
      → ChosenOn rule text (state_of (with_rows [] rows)) more later → AreReadRows rule text t (rows ++ later)
  read_more rows later more r run chosen =
      let s = state_of_read rows r in
      let lasting = on_lasts rule law text (state_of (with_rows [] rows)) more later chosen in
      let goes = read_goes rows r in
      let there : last_live (state_of (with_rows [] rows)).now ≡ Some (last_token r.first.token r.behind) =
      ap (λ ts. last_live (state_of ts).now) (sym (read_tokens rows r)) ∙ goes.last_is in
      let run_here = run_of_last text t (state_of (with_rows [] rows)) s (last_token r.first.token r.behind) more later
      (all_steps more lasting) there goes.last_is run in
      let chosen_here = chosen_of_tokens rule text (state_of (with_rows [] rows)) s more later
      (sym (read_tokens rows r)) chosen in
      record {
        first = r.first;
        behind = r.behind ++ later;
        commands = r.commands ++ more;
        rows_are = ap (λ rs. rs ++ later) r.rows_are;
        is_first = r.is_first;
        run =
            run_glued text t (state_after_first r.first) r.commands more r.behind later (read_lasts rows r) r.run run_here;
        chosen = on_glued rule text (state_after_first r.first) r.commands more r.behind later r.chosen chosen_here;
      }

  module _ {K : Type 0} (knows : Knowledge K) (Alike : Alikeness) (old new : List Node) (j : JoiningState K)
      (left : Option ℕ) (entries : List (Entry K)) where
    pub read_from_start : ReadsFromStart {K = K} rule knows Alike old new j text t entries left
        → AreReadRows rule text t (rows_of {K = K} entries)
    read_from_start reads = record {
      first = reads.first.row;
      behind = rows_of {K = K} reads.behind;
      commands = reads.commands;
      rows_are = ap (rows_of {K = K}) reads.entries_are;
      is_first = reads.is_first;
      run = reads.run;
      chosen = reads.chosen;
    }

    pub read_behind : (rows : List Row) → AreReadRows rule text t rows
        → ReadsBehind {K = K} rule knows Alike old new j text t (with_rows [] rows) entries left
        → AreReadRows rule text t (rows ++ rows_of {K = K} entries)
    read_behind rows r reads = read_more rows (rows_of {K = K} entries) reads.commands r reads.run reads.chosen
