-- How rows are read from a lexer.
use Rattle.std.specs.Prelude.{◌≡◌, ℕ, Bool, true, false, List, [], ◌∷◌, ◌++◌, length, take, Option, Some, None, is_some}
use Rattle.js_text.specs.Lists.{with_last}
use Rattle.js_text.specs.declared.value.RowValue.{RowValue}
use Rattle.js_text.specs.declared.value.RowValue.TheVariants.{Nothing, Units}
use Rattle.js_grammar.specs.Outcome.{FindingLengths, found_since, no_findings}
use Rattle.js_grammar.specs.Values.{template_row_value}
use Rattle.js_grammar.specs.TokenText.{unescaped_value}
use Rattle.js_grammar.specs.ReLexed.{fits}
use Rattle.js_grammar.specs.declared.goal.Goal.{Goal}
use Rattle.js_reader.specs.Decoded.{Values, value_of}
use Rattle.js_kind.specs.Kinds.{is_template_kind}
use Rattle.js_kind.specs.TokenParts.{TokenParts}
use Rattle.js_lexer.specs.Lexer.{LexerState, ReadsToken, IsRestored, GoesOnFrom, CanRewind, Checkpoint, checkpoint_of}
use Rattle.js_lexer.specs.Lexer.{token_or_default, LexesAgain, IsOnPlaces}
use Rattle.js_session.specs.Live.{outcome_of, row_of}
use Rattle.js_session.specs.Report.{LiesOnPlaces}
use Rattle.js_session.specs.declared.command.Command.{Command}
use Rattle.js_session.specs.declared.mark.SessionMark.{SessionMark}
use Rattle.js_session.specs.declared.re_lex.LastRead.{LastRead}
use Rattle.js_session.specs.declared.row.Row.{Row}
use Rattle.js_text.specs.declared.reg_exp_flags.RegexInfo.{RegexInfo}

-- A lexer, the rows that were read from it, and the tokens that are live.
pub record RowReaderState : Type 0 where
  pub lexer : LexerState
  pub rows : List Row
  pub tokens : List TokenParts

-- a value is kept of the token that starts there: as that of a part of a template, or not
abbrev pub IsKept : Bool → Values → ℕ → Type 0
IsKept true decoded start = is_some (value_of decoded.templates start) ≡ true
IsKept false decoded start = is_some (value_of decoded.strings start) ≡ true

-- the value is that of these units
abbrev pub HoldsUnits : Option (List ℕ) → RowValue → Type 0
HoldsUnits None value = ⊥
HoldsUnits (Some units) value = value ≡ Units units

-- the value is that of a part of a template with these units, or bad where it has none
abbrev pub HoldsPart : Option (Option (List ℕ)) → RowValue → Type 0
HoldsPart None value = ⊥
HoldsPart (Some units) value = value ≡ template_row_value units

-- the value is the one that is kept of the token that starts there: as that of a part of a template, or not
abbrev pub HoldsKept : Bool → Values → ℕ → RowValue → Type 0
HoldsKept true decoded start value = HoldsPart (value_of decoded.templates start) value
HoldsKept false decoded start value = HoldsUnits (value_of decoded.strings start) value

-- The value is that of the token: the decoded one where it has an escape, else the one that kind and span tell.
pub record HoldsValue (decoded : Values) (token : TokenParts) (value : RowValue) : Type 0 where
  pub escaped : token.escaped ≡ true → HoldsKept (is_template_kind token.kind) decoded token.start value
  pub unescaped : token.escaped ≡ false → value ≡ unescaped_value token.kind token.start token.end

-- A row was read for a goal from where the lexer stands, and the lexer is behind its token, which lies on places.
pub record ReadsRow (goal : Goal) (command : Option Command) (old : LexerState) (row : Row) (new : LexerState)
    : Type 0 where
  pub reads : ReadsToken goal old row.token new
  pub outcome_is : outcome_of row ≡ reads.outcome
  pub command_is : row.command ≡ command
  pub place : row.place ≡ old.place
  pub taken : row.taken ≡ true
  pub places : LiesOnPlaces old.text row

-- A row is made of a token, in front of which the lexer stood at the place and had found so much.
pub record IsMadeOf (command : Option Command) (place : ℕ) (lengths : FindingLengths) (token : TokenParts)
    (regex : Option RegexInfo) (lexer : LexerState) (row : Row) : Type 0 where
  pub value : HoldsValue lexer.decoded token row.value
  pub row_is : row
      ≡ row_of command place true
      (record { token = token; value = row.value; regex = regex; findings = found_since lengths lexer.findings })

-- The last token was read again, with this known of it as a regular expression.
pub record ReadsAgainAs (goal : Goal) (old : LexerState) (found : LastRead) (new : LexerState) : Type 0 where
  pub reads : LexesAgain goal old found.token new
  pub regex : reads.outcome.regex ≡ found.regex

-- The last token was read again for the goal where it fits; else nothing has changed.
abbrev pub ReadsIfFits : Goal → LexerState → Option LastRead → LexerState → Type 0
ReadsIfFits goal old None new = (fits old.text goal (token_or_default old.last) ≡ false) × (new ≡ old)
ReadsIfFits goal old (Some found) new =
    (fits old.text goal (token_or_default old.last) ≡ true) × ReadsAgainAs goal old found new

-- A row was read for a goal from the start of the last token, in whose place the token of the row stands now.
pub record ReadsRowAgain (goal : Goal) (command : Option Command) (old : LexerState) (row : Row) (new : LexerState)
    : Type 0 where
  pub reads : LexesAgain goal old row.token new
  pub outcome_is : outcome_of row ≡ reads.outcome
  pub command_is : row.command ≡ command
  pub place : row.place ≡ old.place
  pub taken : row.taken ≡ true
  pub places : LiesOnPlaces old.text row

-- A row was read again for the goal, where the last token fits it; else nothing has changed.
abbrev pub ReadsRowIfFits : Goal → Option Command → LexerState → Option Row → LexerState → Type 0
ReadsRowIfFits goal command old None new = (fits old.text goal (token_or_default old.last) ≡ false) × (new ≡ old)
ReadsRowIfFits goal command old (Some row) new =
    (fits old.text goal (token_or_default old.last) ≡ true) × ReadsRowAgain goal command old row new

-- a row was read and added, and its token is live
pub record AddsLive (goal : Goal) (command : Option Command) (old new : RowReaderState) : Type 0 where
  pub row : Row
  pub reads : ReadsRow goal command old.lexer row new.lexer
  pub rows : new.rows ≡ old.rows ++ row ∷ []
  pub tokens : new.tokens ≡ old.tokens ++ row.token ∷ []

-- a row was read and added, and lexer and live tokens are as before
pub record AddsPeek (goal : Goal) (command : Option Command) (old new : RowReaderState) : Type 0 where
  pub row : Row
  pub behind : LexerState
  pub reads : ReadsRow goal command old.lexer row behind
  pub rows : new.rows ≡ old.rows ++ row ∷ []
  pub lexer : IsRestored old.lexer new.lexer
  pub tokens : new.tokens ≡ old.tokens

-- a row was read again and added, and its token is live in the place of the last one
pub record AddsAgain (goal : Goal) (command : Option Command) (old new : RowReaderState) : Type 0 where
  pub row : Row
  pub reads : ReadsRowAgain goal command old.lexer row new.lexer
  pub rows : new.rows ≡ old.rows ++ row ∷ []
  pub tokens : new.tokens ≡ with_last old.tokens row.token

-- the row of a re-lex that is not taken: it holds the last token, and nothing else
abbrev pub not_taken : Option Command → LexerState → Row
not_taken command l =
    row_of command l.place false
    (record { token = token_or_default l.last; value = Nothing; regex = None; findings = no_findings })

-- such a row was added, whose token lies on places, and nothing else has changed
pub record AddsNotTaken (command : Option Command) (old new : RowReaderState) : Type 0 where
  pub places : IsOnPlaces old.lexer.text (token_or_default old.lexer.last)
  pub after : new ≡ record old { rows = old.rows ++ not_taken command old.lexer ∷ [] }

-- a reading that could not allocate: the lexer may have gone on, and one token more may be live
pub record MayGoOn (old new : RowReaderState) : Type 0 where
  pub lexer : GoesOnFrom old.lexer new.lexer
  pub rows : new.rows ≡ old.rows
  pub tokens : take (length old.tokens) new.tokens ≡ old.tokens

-- all is as before
pub record IsUndone (old new : RowReaderState) : Type 0 where
  pub lexer : IsRestored old.lexer new.lexer
  pub rows : new.rows ≡ old.rows
  pub tokens : new.tokens ≡ old.tokens

-- The lexer is what it was at the checkpoint, if it has gone on from there, and so many tokens are live at most.
pub record GoesBack (checkpoint : Checkpoint) (live : ℕ) (old new : RowReaderState) : Type 0 where
  pub lexer : (earlier : LexerState) → checkpoint ≡ checkpoint_of earlier → GoesOnFrom earlier old.lexer
      → IsRestored earlier new.lexer
  pub rows : new.rows ≡ old.rows
  pub tokens : new.tokens ≡ take live old.tokens

-- what a mark keeps: a checkpoint of the lexer, which may go back to it, and how many tokens are live
pub record IsMarkOf (r : RowReaderState) (m : SessionMark) : Type 0 where
  pub tokens : m.tokens ≡ length r.tokens
  pub checkpoint : m.checkpoint ≡ checkpoint_of r.lexer
  pub can_rewind : CanRewind r.lexer m.checkpoint

-- The lexer is what it was at the mark, if it has gone on from there, and so many tokens are live at most. The last of
-- them is the lexer's: it may have been read again since the mark.
pub record GoesToMark (m : SessionMark) (old new : RowReaderState) : Type 0 where
  pub lexer : (earlier : LexerState) → m.checkpoint ≡ checkpoint_of earlier → GoesOnFrom earlier old.lexer
      → IsRestored earlier new.lexer
  pub rows : new.rows ≡ old.rows
  pub tokens : new.tokens ≡ with_last (take m.tokens old.tokens) (token_or_default new.lexer.last)
