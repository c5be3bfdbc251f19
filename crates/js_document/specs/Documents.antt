-- Documents whose goals a rule chooses, and what an edit makes of one.
use Rattle.std.specs.Prelude.{◌≡◌, ℕ, zero, suc, ◌+◌, ◌-◌, ◌≤◌, ◌^◌, false, List, [], ◌∷◌, length}
use Rattle.std.specs.Prelude.{take, drop, slice_get, Option, Some, None}
use Rattle.std.specs.List.{flat_map}
use Rattle.js_text.specs.declared.source_type.SourceType.{SourceType}
use Rattle.js_kind.specs.TokenParts.{TokenParts}
use Rattle.js_session.specs.declared.command.Command.{Command}
use Rattle.js_session.specs.declared.report.Report.{Report}
use Rattle.js_session.specs.declared.row.Row.{Row}
use Rattle.js_session.specs.Live.{live, report_with}
use Rattle.js_choose.specs.Rules.{ReportBy, Rule}
use Rattle.js_relex.specs.Documents.{IsEdit, TakesOver, edited, rows_taken_over}
use Rattle.js_relex.specs.Documents.{DocState as RelexedState}
use Rattle.js_relex.specs.Joined.{FirstFrom, IsMovedToken}
use Rattle.js_document.specs.declared.change.Change.{Change}
use Rattle.js_document.specs.declared.change.ChangedRange.{ChangedRange}
use Rattle.js_document.specs.declared.fault.DocumentFault.{DocumentFault}
use Rattle.js_document.specs.declared.fault.DocumentFault.TheVariants.{BadEdit, Overlong, Memory}
use Rattle.js_document.specs.declared.gap.Entry.{Entry}
use Rattle.js_document.specs.declared.open.Node.{Node}
use Rattle.js_document.specs.Changed.{AreChangesOf, IsChangeOf}
use Rattle.js_document.specs.Found.{findings_of}
use Rattle.js_document.specs.Gap.{rows_of}
use Rattle.js_document.specs.Reading.{AreKnown, Knowledge, states_of}
use Rattle.js_document.specs.States.{Alikeness}

-- the command of a row that has one
abbrev pub commands_in : Option Command → List Command
commands_in None = []
commands_in (Some command) = command ∷ []

-- the commands of the rows behind the first one, which has none
abbrev pub commands_of : List Row → List Command
commands_of rows = flat_map (λ (row : Row). commands_in row.command) rows

-- the report of rows, where no tokens are collected
abbrev pub report_of : List Row → Report
report_of rows = report_with rows [] (live (commands_of rows) rows)

-- How contracts see a document: its text and the type of that, the commands that are chosen for it, their report, and
-- what the last edit changed.
pub record DocState : Type 0 where
  pub text : List ℕ
  pub source_type : SourceType
  pub commands : List Command
  pub report : Report
  pub change : Change

-- the document of rows of a text
abbrev pub document_of : List ℕ → SourceType → List Row → Change → DocState
document_of text t rows change = record {
  text = text;
  source_type = t;
  commands = commands_of rows;
  report = report_of rows;
  change = change;
}

-- The report of a document is that of its text, with the commands that the rule chooses.
pub record IsDocumentOf (rule : Rule) (text : List ℕ) (t : SourceType) (d : DocState) : Type 0 where
  pub text_is : d.text ≡ text
  pub type_is : d.source_type ≡ t
  pub report_is : ReportBy rule text t false d.commands d.report

-- The rows are those of the text, by the rule, and what is known of each is held with it; the pad is what the text has
-- less than 2 ^ 32 - 1 bytes.
pub record IsHeld {K : Type 0} (rule : Rule) (knows : Knowledge K) (text : List ℕ)
    (t : SourceType) (nodes : List Node) (entries : List (Entry K)) (pad : ℕ) : Type 0 where
  pub report_is : ReportBy rule text t false (commands_of (rows_of {K = K} entries)) (report_of (rows_of {K = K} entries))
  pub known : AreKnown {K = K} knows nodes [] (rows_of {K = K} entries) (states_of {K = K} entries)
  pub pad_is : pad + length text ≡ 2 ^ 32 - 1

-- So many rows are kept: the longest front of rows whose token ends four bytes or more before the edit.
abbrev pub IsKept : ℕ → List Row → ℕ → Type 0
IsKept start [] kept = kept ≡ 0
IsKept start (row ∷ rows) zero = row.token.end + 4 ≤ start → ⊥
IsKept start (row ∷ rows) (suc kept) = (row.token.end + 4 ≤ start) × IsKept start rows kept

-- The tokens that are live behind the row with an index.
abbrev pub tokens_behind : List Command → List Row → ℕ → List TokenParts
tokens_behind commands rows index = (live (take index commands) rows).tokens

-- The new row at the index joins an old row: its token is that of the old one, moved, and the same commands come behind
-- both as long as the same tokens follow.
pub record JoinsRow (Alike : Alikeness) (old : DocState) (start end : ℕ) (new : List ℕ) (commands : List Command)
    (rows : List Row) (index : ℕ) (row : Row) : Type 0 where
  pub old_index : ℕ
  pub old_row : Row
  pub is_there : slice_get old.report.rows old_index ≡ Some old_row
  pub moved : IsMovedToken end (start + length new) old_row.token row.token
  pub alike : Alike (tokens_behind commands rows index) (tokens_behind old.commands old.report.rows old_index)

-- the document as one of js_relex
abbrev pub as_relexed : DocState → RelexedState
as_relexed d = record {
  text = d.text;
  source_type = d.source_type;
  commands = d.commands;
  report = d.report;
  kept = 0;
  joined = None;
}

-- What an edit of a document gives: the document of the edited text. Rows are kept and joined as told, and the counter
-- rose by the rows in between. The change tells which tokens went and came, and which items of what was found.
pub record Edits (rule : Rule) (Alike : Alikeness) (old : DocState) (start end : ℕ) (new : List ℕ) (before now : ℕ)
    (d : DocState) : Type 0 where
  pub edit : IsEdit old.text start end
  pub document : IsDocumentOf rule (edited old.text start end new) old.source_type d
  pub kept : IsKept start old.report.rows d.change.kept_rows
  pub joined : Option ℕ
  pub joined_is : FirstFrom (JoinsRow Alike old start end new d.commands d.report.rows) d.change.kept_rows
      (drop d.change.kept_rows d.report.rows) joined
  pub takes_over : TakesOver (as_relexed old) start end new d.report.rows d.change.kept_rows joined
  pub read : d.change.kept_rows + d.change.read_rows + rows_taken_over joined d.report.rows ≡ length d.report.rows
  pub ticks : now ≡ before + d.change.read_rows
  pub tokens : IsChangeOf start end new old.report.tokens d.report.tokens d.change.tokens
  pub found : AreChangesOf start end new (findings_of old.report) (findings_of d.report) d.change
  pub moved : d.change.moved ≡ record { from = end; to = start + length new }

-- all of a list came that has so many items
abbrev pub all_came : ℕ → ChangedRange
all_came count = record { start = 0; old_end = 0; new_end = count }

-- the change of a new document: each row was read, each token came, and all that was found
abbrev pub change_of_new : Report → Change
change_of_new report = record {
  kept_rows = 0;
  read_rows = length report.rows;
  tokens = all_came (length report.tokens);
  comments = all_came (length report.comments);
  diagnostics = all_came (length report.diagnostics);
  deferred = all_came (length report.deferred);
  irregular = all_came (length report.irregular);
  warnings = all_came (length report.warnings);
  moved = record { from = 0; to = 0 };
}

-- why there is no document of a text
abbrev pub TextCause : List ℕ → DocumentFault → Type 0
TextCause text BadEdit = ⊥
TextCause text Overlong = 2 ^ 32 ≤ length text
TextCause text Memory = ⊥

-- why there is no document of an edit
abbrev pub EditCause : List ℕ → ℕ → ℕ → List ℕ → DocumentFault → Type 0
EditCause old start end new BadEdit = IsEdit old start end → ⊥
EditCause old start end new Overlong = IsEdit old start end × (2 ^ 32 ≤ length (edited old start end new))
EditCause old start end new Memory = ⊥
