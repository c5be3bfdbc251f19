-- How contracts see a session, and what its calls do.
use Rattle.std.specs.Prelude.{◌≡◌, ℕ, Bool, List, [], ◌∷◌, ◌++◌, Some, None, MatchBool}
use Rattle.std.specs.List.{AllByRecursion}
use Rattle.js_text.specs.declared.source_type.SourceType.{SourceType}
use Rattle.js_grammar.specs.Outcome.{no_findings}
use Rattle.js_grammar.specs.ReLexed.{HasSpelling}
use Rattle.js_kind.specs.TokenParts.{TokenParts}
use Rattle.js_lexer.specs.Lexer.{IsOnPlaces}
use Rattle.js_session.specs.Effects.{effect_of, is_step, free_after}
use Rattle.js_session.specs.Live.{State, nothing_live, report_with, state_after_first, state_after, after_row}
use Rattle.js_session.specs.Live.{after_mark}
use Rattle.js_session.specs.Report.{IsRow, LiesOnPlaces, Run, all_collected}
use Rattle.js_session.specs.declared.command.Command.{Command}
use Rattle.js_session.specs.declared.report.Report.{Report}
use Rattle.js_session.specs.declared.row.Row.{Row}

-- A session: its source, its rows, what is live, what was live at each open mark, and how many places for marks are
-- free.
pub record SessionState : Type 0 where
  pub text : List ℕ
  pub source_type : SourceType
  pub collects : Bool
  pub rows : List Row
  pub state : State
  pub spare : ℕ

-- a session after its first step
pub record Begins (text : List ℕ) (t : SourceType) (collects : Bool) (new : SessionState) : Type 0 where
  pub row : Row
  pub is_row : IsRow text t nothing_live None row
  pub after : new ≡ record {
    text = text;
    source_type = t;
    collects = collects;
    rows = row ∷ [];
    state = state_after_first row;
    spare = 0;
  }

-- A session may go on behind a token of a text: the token lies on places of the text, and where it may be read again,
-- it has the spelling of its kind there.
pub record MayResume (text : List ℕ) (token : TokenParts) : Type 0 where
  pub lies : IsOnPlaces text token
  pub spelled : HasSpelling text token

-- the token of the last row, or the one before the rows
abbrev pub last_token : TokenParts → List Row → TokenParts
last_token token [] = token
last_token token (row ∷ rows) = last_token row.token rows

-- what is live behind a token, where nothing else is
abbrev pub state_behind : TokenParts → State
state_behind token = record { now = record { tokens = token ∷ []; findings = no_findings }; marks = [] }

-- a session that goes on behind a token: it has no row yet
abbrev pub resumed : List ℕ → SourceType → Bool → TokenParts → SessionState
resumed text t collects token = record {
  text = text;
  source_type = t;
  collects = collects;
  rows = [];
  state = state_behind token;
  spare = 0;
}

-- One step: a row of the command was added, and the state is the one after it.
pub record AddsRow (command : Command) (old new : SessionState) : Type 0 where
  pub row : Row
  pub is_row : IsRow old.text old.source_type old.state.now (Some command) row
  pub after : new ≡ record old { rows = old.rows ++ row ∷ []; state = after_row (effect_of command) row old.state }

-- a session after a command that gives no row
abbrev pub after_command : Command → SessionState → SessionState
after_command command s = record s {
  state = after_mark (effect_of command) s.state;
  spare = free_after (effect_of command) s.spare;
}

-- the report of a session
abbrev pub report_of : SessionState → Report
report_of s = report_with s.rows (all_collected s.collects s.state.now.tokens) s.state.now

-- The rows of a session, and its live tokens, lie on places of its text.
pub record LieOnPlaces (s : SessionState) : Type 0 where
  pub rows : AllByRecursion (LiesOnPlaces s.text) s.rows
  pub tokens : AllByRecursion (IsOnPlaces s.text) s.state.now.tokens

-- One command of any kind: a step adds its row, and any other command changes the state alone.
abbrev pub Follows : Command → SessionState → SessionState → Type 0
Follows command old new = MatchBool (is_step command) (AddsRow command old new) (new ≡ after_command command old)

-- From a state on, behind these rows, a session has answered the commands: its rows are those of them, and its state is
-- the one behind them, with what was live at each open mark.
pub record RunsFrom (text : List ℕ) (t : SourceType) (collects : Bool) (start : State) (before : List Row)
    (commands : List Command) (s : SessionState) : Type 0 where
  pub text_is : s.text ≡ text
  pub type_is : s.source_type ≡ t
  pub collects_is : s.collects ≡ collects
  pub rows : List Row
  pub rows_are : s.rows ≡ before ++ rows
  pub answers : Run text t start commands rows
  pub state : s.state ≡ state_after start commands rows

-- A session has answered its first step and these commands.
pub record HasRun (text : List ℕ) (t : SourceType) (collects : Bool) (commands : List Command) (s : SessionState)
    : Type 0 where
  pub first : Row
  pub is_first : IsRow text t nothing_live None first
  pub runs : RunsFrom text t collects (state_after_first first) (first ∷ []) commands s

-- A session that went on behind a token has answered these commands.
abbrev pub HasRunFrom : List ℕ → SourceType → Bool → TokenParts → List Command → SessionState → Type 0
HasRunFrom text t collects token commands s = RunsFrom text t collects (state_behind token) [] commands s
