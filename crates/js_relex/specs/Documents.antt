-- Documents, and what an edit makes of one.
use Rattle.std.specs.Prelude.{◌≡◌, ℕ, ◌<◌, ◌≤◌, ◌+◌, ◌^◌, true, false, List, [], ◌∷◌, ◌++◌, length, take, drop}
use Rattle.std.specs.Prelude.{◌-◌, suc, slice_get, map, Option, Some, None}
use Rattle.std.specs.List.{AllByRecursion, list_all}
use Rattle.std.specs.Str.{IsCharBoundary}
use Rattle.js_text.specs.declared.source_type.SourceType.{SourceType}
use Rattle.js_session.specs.declared.command.Command.{Command}
use Rattle.js_session.specs.declared.report.Report.{Report}
use Rattle.js_session.specs.declared.row.Row.{Row}
use Rattle.js_session.specs.Effects.{is_lasting, row_effect}
use Rattle.js_session.specs.Live.{Live, after_row, nothing_live, report_live}
use Rattle.js_session.specs.Report.{AreRows, ReportOf}
use Rattle.js_session.specs.Shifted.{OfEachPlace, ShiftFits, shifted_row}
use Rattle.js_relex.specs.Joined.{FirstFrom, JoiningState, Joins}
use Rattle.js_relex.specs.Kept.{IsKept}
use Rattle.js_relex.specs.declared.fault.RelexFault.{RelexFault}
use Rattle.js_relex.specs.declared.fault.RelexFault.TheVariants.{BadEdit, Overlong, BadCommand, Memory}

-- An edit of the text: its start and its end, in order, are places of it.
pub record IsEdit (text : List ℕ) (start end : ℕ) : Type 0 where
  pub ordered : start ≤ end
  pub starts : IsCharBoundary text start
  pub ends : IsCharBoundary text end

-- the text in which the bytes from the start up to the end become new ones
abbrev pub edited : List ℕ → ℕ → ℕ → List ℕ → List ℕ
edited text start end new = take start text ++ new ++ drop end text

-- The first command that a document may not be given is at the index.
pub record IsFirstBad (commands : List Command) (index : ℕ) : Type 0 where
  pub command : Command
  pub is_there : slice_get commands index ≡ Some command
  pub bad : is_lasting command ≡ false
  pub before : list_all is_lasting (take index commands) ≡ true

-- why there is no document of a text and commands
abbrev pub Cause : List ℕ → List Command → RelexFault → Type 0
Cause text commands BadEdit = ⊥
Cause text commands Overlong = 2 ^ 32 ≤ length text
Cause text commands (BadCommand index) = (length text < 2 ^ 32) × IsFirstBad commands index
Cause text commands Memory = ⊥

-- A document: its text and the type of that, the commands, their report, how many rows at its front were kept, and at
-- which row it joined the old one.
pub record DocState : Type 0 where
  pub text : List ℕ
  pub source_type : SourceType
  pub commands : List Command
  pub report : Report
  pub kept : ℕ
  pub joined : Option ℕ

-- The report of a document is that of its text and commands, with no tokens collected.
pub record IsDocument (text : List ℕ) (t : SourceType) (commands : List Command) (report : Report) : Type 0 where
  pub lasting : list_all is_lasting commands ≡ true
  pub report_is : ReportOf text t false commands report

-- what is live behind rows, each by the effect of its command
abbrev pub live_behind : Live → List Row → Live
live_behind live [] = live
live_behind live (row ∷ rows) =
    live_behind (after_row (row_effect row.command) row (record { now = live; marks = [] })).now rows

-- A report has what is live, and the same rows.
pub record GoesLive (old : Report) (live : Live) (new : Report) : Type 0 where
  pub live_is : report_live new ≡ live
  pub rows_are : new.rows ≡ old.rows
  pub collected : new.collected ≡ old.collected

-- the token of the row starts at its end or before it
abbrev pub IsInOrder : Row → Type 0
IsInOrder row = row.token.start ≤ row.token.end

-- The row may be moved: its token lies in order, and each of its places is a `u32` once it is shifted.
pub record MayMove (from to : ℕ) (row : Row) : Type 0 where
  pub ordered : IsInOrder row
  pub fits : ShiftFits from to row

-- A report of these rows, with what is live behind them, and no collected tokens.
pub record IsGathered (rows : List Row) (report : Report) : Type 0 where
  pub rows_are : report.rows ≡ rows
  pub live : report_live report ≡ live_behind nothing_live rows
  pub collected : report.collected ≡ []

-- A document of the text and the commands, of which so many rows were kept.
pub record IsDocumentOf (text : List ℕ) (t : SourceType) (commands : List Command) (d : DocState) : Type 0 where
  pub text_is : d.text ≡ text
  pub type_is : d.source_type ≡ t
  pub commands_are : d.commands ≡ commands
  pub report_is : ReportOf text t false commands d.report

-- what the rows of a document whose text is edited may be joined by
abbrev pub joining : DocState → ℕ → ℕ → List ℕ → List Command → JoiningState
joining old start end new commands = record {
  from = end;
  to = start + length new;
  rows = old.report.rows;
  old_commands = old.commands;
  commands = commands;
}

-- how many rows stand behind the one at which the old rows are joined
abbrev pub rows_taken_over : Option ℕ → List Row → ℕ
rows_taken_over None rows = 0
rows_taken_over (Some index) rows = length rows - suc index

-- Of the rows of an edited text so many are kept, and at this one they join the old ones.
pub record Spares (old : DocState) (start end : ℕ) (new : List ℕ) (commands : List Command) (rows : List Row)
    (kept : ℕ) (joined : Option ℕ) : Type 0 where
  pub kept_is : IsKept start old.report.rows commands kept
  pub joined_is : FirstFrom (Joins (joining old start end new commands)) kept (drop kept rows) joined

-- the rows behind the one at which the old rows are joined
abbrev pub rows_behind_joined : Option ℕ → List Row → List Row
rows_behind_joined None rows = []
rows_behind_joined (Some index) rows = drop (suc index) rows

-- so many of the last rows
abbrev pub last_rows : ℕ → List Row → List Row
last_rows count rows = drop (length rows - count) rows

-- The rows of an edited text that stand for old rows: the first ones are the first old rows, index by index. Those behind
-- the row at which the old rows are joined are as many last old rows, in order; each place of these is behind the edit,
-- and moved from its end in the old text to its end in the new one.
pub record TakesOver (old : DocState) (start end : ℕ) (new : List ℕ) (rows : List Row) (kept : ℕ) (joined : Option ℕ)
    : Type 0 where
  pub front : take kept rows ≡ take kept old.report.rows
  pub few_front : kept ≤ length old.report.rows
  pub behind : rows_behind_joined joined rows
      ≡ map (shifted_row end (start + length new)) (last_rows (rows_taken_over joined rows) old.report.rows)
  pub few_behind : rows_taken_over joined rows ≤ length old.report.rows
  pub behind_edit : AllByRecursion (OfEachPlace (λ place. end ≤ place))
      (last_rows (rows_taken_over joined rows) old.report.rows)

-- A document of an edited text: so many of the old rows were kept, at this row it joined the old one, and the counter
-- rose by the number of the rows that are neither kept nor behind that row.
pub record Relexes (old : DocState) (start end : ℕ) (new : List ℕ) (commands : List Command) (before now : ℕ)
    (d : DocState) : Type 0 where
  pub document : IsDocumentOf (edited old.text start end new) old.source_type commands d
  pub spares : Spares old start end new commands d.report.rows d.kept d.joined
  pub takes_over : TakesOver old start end new d.report.rows d.kept d.joined
  pub ticks : now + d.kept + rows_taken_over d.joined d.report.rows ≡ before + length d.report.rows

-- The counter rose by no more than the rows of the commands, without those that are kept, and without those behind the
-- one at which the old rows are joined.
pub record TicksAtMost (old : DocState) (start end : ℕ) (new : List ℕ) (commands : List Command) (before now : ℕ)
    : Type 0 where
  pub kept : ℕ
  pub is_kept : IsKept start old.report.rows commands kept
  pub at_most : now + kept ≤ before + (length commands + 1)
  pub joined_at_most : (rows : List Row) (joined : Option ℕ)
      → AreRows (edited old.text start end new) old.source_type commands rows
      → Spares old start end new commands rows kept joined
      → now + kept + rows_taken_over joined rows ≤ before + length rows

-- why there is no document of an edit
abbrev pub EditCause : List ℕ → ℕ → ℕ → List ℕ → List Command → RelexFault → Type 0
EditCause old start end new commands BadEdit = IsEdit old start end → ⊥
EditCause old start end new commands Overlong =
    IsEdit old start end × Cause (edited old start end new) commands Overlong
EditCause old start end new commands (BadCommand index) =
    IsEdit old start end × Cause (edited old start end new) commands (BadCommand index)
EditCause old start end new commands Memory = ⊥
