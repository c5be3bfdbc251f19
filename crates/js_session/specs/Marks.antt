-- Marks kept as lengths: what was live at a mark is a front of what is live now, with the token of its checkpoint last.
use Rattle.std.specs.Prelude.{◌≡◌, ℕ, ◌≤◌, Bool, List, [], ◌∷◌, length, take, reverse, Option, None, option_to_list}
use Rattle.std.specs.List.{AllByRecursion, flat_map}
use Rattle.js_text.specs.declared.source_type.SourceType.{SourceType}
use Rattle.js_grammar.specs.Outcome.{Findings, cut_to}
use Rattle.js_kind.specs.TokenParts.{TokenParts}
use Rattle.js_reader.specs.Decoded.{no_values}
use Rattle.js_lexer.specs.Lexer.{LexerState, GoesOnFrom, CanRewind, checkpoint_of, put_back, IsOnPlaces}
use Rattle.js_session.specs.Live.{Live, State, last_live, place_behind_last}
use Rattle.js_session.specs.Report.{all_collected, LiesOnPlaces}
use Rattle.js_session.specs.RowReader.{RowReaderState}
use Rattle.js_session.specs.declared.mark.SessionMark.{SessionMark}

-- the marks that these places hold
abbrev pub marks_in : List (Option SessionMark) → List SessionMark
marks_in places = flat_map option_to_list places

-- what is live, by a session's tokens and what its lexer has found
abbrev pub live_of : List TokenParts → Findings → Live
live_of tokens findings = record { tokens = tokens; findings = findings }

-- what is live of what was read
abbrev pub live_now : RowReaderState → Live
live_now r = live_of r.tokens r.lexer.findings

-- What was live at a mark. Its last token may have been read again since: the checkpoint has it as it was.
abbrev pub front : Live → SessionMark → Live
front now m = record {
  tokens = put_back (take m.tokens now.tokens) m.checkpoint.last;
  findings = cut_to m.checkpoint.lengths now.findings;
}

-- what was live at each mark, the last mark first
abbrev pub fronts : Live → List SessionMark → List Live
fronts now [] = []
fronts now (m ∷ ms) = front now m ∷ fronts (front now m) ms

-- the state that the live lists and marks of a session are
abbrev pub state_of : Live → List SessionMark → State
state_of now marks = record { now = now; marks = fronts now (reverse marks) }

-- the lexer behind the last live token, without the decoded values, which no rewind takes back, without annotations and
-- without free places
abbrev pub lexer_behind : List ℕ → SourceType → Bool → Live → LexerState
lexer_behind text t collects now = record {
  text = text;
  source_type = t;
  collects = collects;
  place = place_behind_last now;
  last = last_live now;
  tokens = all_collected collects now.tokens;
  free = 0;
  findings = now.findings;
  pure_comments = None;
  no_side_effects_comments = None;
  decoded = no_values;
}

-- that lexer, with the annotations of a mark's checkpoint
abbrev pub lexer_at : List ℕ → SourceType → Bool → SessionMark → Live → LexerState
lexer_at text t collects m now = record (lexer_behind text t collects now) {
  pure_comments = m.checkpoint.pure_comments;
  no_side_effects_comments = m.checkpoint.no_side_effects_comments;
}

-- the same lexer, but for decoded values and for where the annotations before its last token are
pub record IsAlike (old new : LexerState) : Type 0 where
  pub text : new.text ≡ old.text
  pub source_type : new.source_type ≡ old.source_type
  pub collects : new.collects ≡ old.collects
  pub place : new.place ≡ old.place
  pub last : new.last ≡ old.last
  pub tokens : new.tokens ≡ old.tokens
  pub findings : new.findings ≡ old.findings

-- A mark: its checkpoint is of the lexer behind what was live then. The lexer has gone on from there, and may go back.
pub record IsMark (text : List ℕ) (t : SourceType) (collects : Bool) (now : Live) (m : SessionMark) : Type 0 where
  pub tokens : m.tokens ≤ length now.tokens
  pub checkpoint : m.checkpoint ≡ checkpoint_of (lexer_at text t collects m (front now m))
  pub goes_on : GoesOnFrom (lexer_behind text t collects (front now m)) (lexer_behind text t collects now)
  pub can_rewind : CanRewind (lexer_behind text t collects now) m.checkpoint

-- the marks, the last one first
abbrev pub AreMarks : List ℕ → SourceType → Bool → Live → List SessionMark → Type 0
AreMarks text t collects now [] = Unit {0}
AreMarks text t collects now (m ∷ ms) = IsMark text t collects now m × AreMarks text t collects (front now m) ms

-- A session is in order: its lexer is behind the last live token, its marks are of what was live, and rows and live
-- tokens lie on places of the text.
pub record IsInOrder (r : RowReaderState) (marks : List SessionMark) : Type 0 where
  pub behind : IsAlike (lexer_behind r.lexer.text r.lexer.source_type r.lexer.collects (live_now r)) r.lexer
  pub are_marks : AreMarks r.lexer.text r.lexer.source_type r.lexer.collects (live_now r) marks
  pub rows_lie : AllByRecursion (LiesOnPlaces r.lexer.text) r.rows
  pub tokens_lie : AllByRecursion (IsOnPlaces r.lexer.text) r.tokens
