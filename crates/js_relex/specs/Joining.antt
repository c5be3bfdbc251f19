-- How the rows of an edited text are read up to the one at which the old rows are joined.
use Rattle.std.specs.Prelude.{◌≡◌, ℕ, suc, ◌+◌, ◌-◌, ◌<◌, ◌≤◌, ◌^◌, Bool, true, false, List, [], ◌∷◌, ◌++◌, length, map}
use Rattle.std.specs.Prelude.{take, drop, Option, Some, None, if◌then◌else◌}
use Rattle.std.specs.List.{list_all}
use Rattle.std.specs.Str.{IsUtf8}
use Rattle.js_text.specs.declared.source_type.SourceType.{SourceType}
use Rattle.js_session.specs.declared.command.Command.{Command}
use Rattle.js_session.specs.declared.row.Row.{Row}
use Rattle.js_session.specs.Effects.{is_lasting}
use Rattle.js_session.specs.Live.{State}
use Rattle.js_session.specs.Report.{AreRows, Run}
use Rattle.js_session.specs.Session.{RunsFrom, SessionState}
use Rattle.js_session.specs.Shifted.{shifted_row}
use Rattle.js_relex.specs.Documents.{DocState, IsEdit, edited, joining}
use Rattle.js_relex.specs.Joined.{FirstFrom, JoiningState, Joins}
use Rattle.js_relex.specs.Kept.{IsKept}

-- the row at the index, if rows are joined there
abbrev pub joined_at : Bool → ℕ → Option ℕ
joined_at joined index = if joined then Some index else None

-- the index of the first row that answers one of these last commands of a document
abbrev pub index_behind : JoiningState → List Command → ℕ
index_behind j left = suc (length j.commands - length left)

-- A session has added rows, each a step of the first of these commands.
pub record Stepped (commands : List Command) (old new : SessionState) (rows : List Row) : Type 0 where
  pub rows_are : new.rows ≡ old.rows ++ rows
  pub few : length rows ≤ length commands
  pub runs : (text : List ℕ) (t : SourceType) (collects : Bool) (start : State) (before : List Row)
      → RunsFrom text t collects start before [] old
      → RunsFrom text t collects start before (take (length rows) commands) new

-- A session has made a step for each command, up to the first whose row joins the old ones.
pub record StepsUntil (j : JoiningState) (commands : List Command) (old new : SessionState) (before now : ℕ)
    (joined : Bool) : Type 0 where
  pub rows : List Row
  pub stepped : Stepped commands old new rows
  pub first : FirstFrom (Joins j) (index_behind j commands) rows
      (joined_at joined (length j.commands - length commands + length rows))
  pub all : joined ≡ false → length rows ≡ length commands
  pub ticks : now ≡ before + length rows

-- A session has broken off before it came to such a row, or to the last command.
pub record StepsBroken (j : JoiningState) (commands : List Command) (old new : SessionState) (before now : ℕ)
    : Type 0 where
  pub rows : List Row
  pub stepped : Stepped commands old new rows
  pub none : FirstFrom (Joins j) (index_behind j commands) rows None
  pub some_left : length rows < length commands
  pub ticks : now ≤ before + (length rows + 1)

-- From a state on, rows were read for these last commands, up to the first that joins the old ones.
pub record ReadsUntil (text : List ℕ) (t : SourceType) (s : State) (j : JoiningState) (commands : List Command)
    (rows : List Row) (joined : Bool) : Type 0 where
  pub run : Run text t s (take (length rows) commands) rows
  pub few : length rows ≤ length commands
  pub first : FirstFrom (Joins j) (index_behind j commands) rows
      (joined_at joined (length j.commands - length commands + length rows))
  pub all : joined ≡ false → length rows ≡ length commands

-- The counter rose by one for each of the rows at the front, and perhaps by one more; none of these joins the old ones,
-- and a row comes behind them.
pub record BreaksIn (j : JoiningState) (index : ℕ) (before now : ℕ) (all : List Row) : Type 0 where
  pub rows : List Row
  pub next : Row
  pub more : List Row
  pub all_are : all ≡ rows ++ next ∷ more
  pub none : FirstFrom (Joins j) index rows None
  pub ticks : now ≤ before + (length rows + 1)

-- Reading rows for these last commands, from a state on, broke off.
abbrev pub BreaksBehind : List ℕ → SourceType → State → JoiningState → List Command → ℕ → ℕ → Type 0
BreaksBehind text t s j commands before now =
    (all : List Row) → Run text t s commands all → BreaksIn j (index_behind j commands) before now all

-- Behind so many kept rows these were read, up to the first that joins the old ones.
pub record ReadsEdited (text : List ℕ) (t : SourceType) (j : JoiningState) (kept : ℕ) (rows : List Row) (joined : Bool)
    : Type 0 where
  pub are : AreRows text t (take (kept + length rows - 1) j.commands) (take kept j.rows ++ rows)
  pub some : 0 < kept + length rows
  pub few : kept + length rows ≤ length j.commands + 1
  pub first : FirstFrom (Joins j) kept rows (joined_at joined (kept + length rows - 1))
  pub all : joined ≡ false → kept + length rows ≡ length j.commands + 1

-- Reading behind so many kept rows broke off.
abbrev pub BreaksEdited : List ℕ → SourceType → JoiningState → ℕ → ℕ → ℕ → Type 0
BreaksEdited text t j kept before now =
    (all : List Row) → AreRows text t j.commands all
    → (behind : List Row) × (all ≡ take kept j.rows ++ behind) × BreaksIn j kept before now behind

-- how many old rows are taken over, where so many of the new ones are kept and these were read
abbrev pub taken_over : JoiningState → ℕ → List Row → ℕ
taken_over j kept rows = length j.commands + 1 - (kept + length rows)

-- the old rows that are taken over
abbrev pub old_rows_behind : JoiningState → ℕ → List Row
old_rows_behind j behind = drop (length j.rows - behind) j.rows

-- the rows of an edited text: so many that are kept, those that were read, and the old ones behind them, moved
abbrev pub all_rows : JoiningState → ℕ → List Row → List Row
all_rows j kept rows =
    take kept j.rows ++ rows ++ map (shifted_row j.from j.to) (old_rows_behind j (taken_over j kept rows))

-- What an edit leaves to be put together: how many rows are kept, the rows that were read, and whether the last of
-- them joins the old ones.
pub record PreparedState : Type 0 where
  pub text : List ℕ
  pub commands : List Command
  pub kept : ℕ
  pub rows : List Row
  pub joined : Bool

-- What is put together is a document of the edited text.
pub record Prepares (old : DocState) (start end : ℕ) (new : List ℕ) (p : PreparedState) : Type 0 where
  pub edit : IsEdit old.text start end
  pub text_is : p.text ≡ edited old.text start end new
  pub utf8 : IsUtf8 p.text
  pub short : length p.text < 2 ^ 32
  pub lasting : list_all is_lasting p.commands ≡ true
  pub kept_is : IsKept start old.report.rows p.commands p.kept
  pub few_kept : p.kept ≤ length old.report.rows
  pub reads : ReadsEdited p.text old.source_type (joining old start end new p.commands) p.kept p.rows p.joined
