-- The steps of a session with marks, by the readings of a lexer that makes no rows.
use Rattle.std.proofs.Common.{◌≡◌, ◌≤◌, ℕ, Bool, true, false, List, [], ◌∷◌}
use Rattle.std.proofs.Common.{◌++◌, refl, sym, ◌∙◌, ap, subst, Some, None, reverse}
use Rattle.std.specs.Prelude.{MatchBool}
use Rattle.std.specs.Str.{IsUtf8}
use Rattle.js_text.specs.Lists.{with_last}
use Rattle.js_text.specs.declared.source_type.SourceType.{SourceType}
use Rattle.js_kind.specs.TokenParts.{TokenParts}
use Rattle.js_grammar.specs.Reads.{is_onward}
use Rattle.js_grammar.specs.ReLexed.{fits}
use Rattle.js_grammar.specs.TokenText.{text_end, text_start}
use Rattle.js_grammar.specs.declared.goal.Goal.{Goal}
use Rattle.js_grammar.specs.declared.goal.Goal.TheVariants.{Next as NextGoal}
use Rattle.js_reader.specs.Decoded.{Values}
use Rattle.js_lexer.specs.Lexer.{IsOnPlaces, LexerState, Peeks, ReadsToken, after_outcome, fresh, token_or_default}
use Rattle.js_session.specs.Effects.{effect_of}
use Rattle.js_session.specs.declared.command.Effect.TheVariants.{Reads, ReLexes}
use Rattle.js_session.specs.declared.command.Command.{Command}
use Rattle.js_session.specs.declared.command.Command.TheVariants.{Peek}
use Rattle.js_session.specs.declared.mark.SessionMark.{SessionMark}
use Rattle.js_session.specs.declared.row.Row.{Row}
use Rattle.js_session.specs.Live.{nothing_live}
use Rattle.js_session.specs.Marks.{IsAlike, IsInOrder, lexer_behind}
use Rattle.js_session.specs.RowReader.{AddsAgain, AddsLive, AddsNotTaken, AddsPeek, HoldsValue, RowReaderState}
use Rattle.js_session.specs.RowReader.{not_taken}
use Rattle.js_session.specs.Session.{AddsRow, SessionState}
use Rattle.js_session.proofs.StepLemmas.{on_adds_row, order_added, order_peeked, order_re_lexed, peek_adds_row}
use Rattle.js_session.proofs.StepLemmas.{re_lex_adds_row, seen}
use Rattle.js_session.specs.RowReader.{ReadsAgainAs}
use Rattle.js_session.specs.declared.re_lex.LastRead.{LastRead}
use Rattle.js_lists.proofs.RowLemmas.{holds_value, row_made, row_read, row_read_again}

-- what is held back of the row of the last live token
pub record HoldsLast (decoded : Values) (row : Row) (last : LastRead) : Type 0 where
  pub token : row.token ≡ last.token
  pub regex : row.regex ≡ last.regex
  pub value : HoldsValue decoded last.token row.value
  pub ordered : text_start last.token.kind last.token.start ≤ text_end last.token.kind last.token.end

last_same : (rows : List Row) (a b : Row) → rows ++ a ∷ [] ≡ rows ++ b ∷ [] → a ≡ b
last_same [] a b e = cc
last_same (row ∷ rows) a b e = let rest : rows ++ a ∷ [] ≡ rows ++ b ∷ [] = cc in last_same rows a b rest

-- the row that a step added
pub row_added : (command : Command) (s new : SessionState) (row : Row) → (a : AddsRow command s new)
    → new.rows ≡ s.rows ++ row ∷ [] → row ≡ a.row
row_added command s new row a rows =
    last_same s.rows row a.row (sym rows ∙ ap (λ (x : SessionState). x.rows) a.after)

-- A lexer that has read nothing is behind nothing.
fresh_behind : (text : List ℕ) (t : SourceType) (collects : Bool)
    → IsAlike (lexer_behind text t collects nothing_live) (fresh text t collects)
fresh_behind text t collects = record {
  text = refl;
  source_type = refl;
  collects = refl;
  place = refl;
  last = refl;
  tokens = refl;
  findings = refl;
}

pub fresh_in_order : (text : List ℕ) (t : SourceType) (collects : Bool)
    → IsInOrder (record { lexer = fresh text t collects; rows = []; tokens = [] }) []
fresh_in_order text t collects =
    record { behind = fresh_behind text t collects; are_marks = tt; rows_lie = tt; tokens_lie = tt }

-- the reader of a session, once a row was added, with its lexer and the live tokens now
abbrev pub reader_with : RowReaderState → LexerState → Row → List TokenParts → RowReaderState
reader_with r new row tokens = record { lexer = new; rows = r.rows ++ row ∷ []; tokens = tokens }

-- A session with these marks has this row more, and these are the live tokens now.
pub record AddsStep (command : Command) (r : RowReaderState) (marks : List SessionMark) (spare : ℕ) (new : LexerState)
    (row : Row) (tokens : List TokenParts) : Type 0 where
  pub in_order : IsInOrder (reader_with r new row tokens) (reverse marks)
  pub adds : AddsRow command (seen r marks spare) (seen (reader_with r new row tokens) marks spare)
  pub row_is : row ≡ adds.row

adds_step : (command : Command) (r : RowReaderState) (marks : List SessionMark) (spare : ℕ) (new : LexerState)
    (row : Row) (tokens : List TokenParts) → IsInOrder (reader_with r new row tokens) (reverse marks)
    → AddsRow command (seen r marks spare) (seen (reader_with r new row tokens) marks spare)
    → AddsStep command r marks spare new row tokens
adds_step command r marks spare new row tokens in_order adds = record {
  in_order = in_order;
  adds = adds;
  row_is =
      row_added command (seen r marks spare) (seen (reader_with r new row tokens) marks spare) row adds refl;
}

-- The row of a token that was read, or read again, holds what is held back of it.
pub record StepsLive (command : Command) (r : RowReaderState) (marks : List SessionMark) (spare : ℕ) (new : LexerState)
    (last : LastRead) (tokens : List TokenParts) : Type 0 where
  pub row : Row
  pub steps : AddsStep command r marks spare new row tokens
  pub taken : row.taken ≡ true
  pub holds : HoldsLast new.decoded row last

-- A token that was read on.
pub reads_on : (goal : Goal) (command : Command) (r : RowReaderState) (marks : List SessionMark) (spare : ℕ)
    (new : LexerState) (last : LastRead) → effect_of command ≡ Reads goal → is_onward goal ≡ true
    → IsUtf8 r.lexer.text → ReadsToken goal r.lexer last.token new → last.regex ≡ None → IsInOrder r (reverse marks)
    → StepsLive command r marks spare new last (r.tokens ++ last.token ∷ [])
reads_on goal command r marks spare new last effect onward u read none h =
    let token = last.token in
    let row = row_made (Some command) r.lexer token None read.outcome.value new in
    let tokens = r.tokens ++ token ∷ [] in
    let after = reader_with r new row tokens in
    let adds : AddsLive goal (Some command) r after =
    record {
      row = row;
      reads = row_read goal (Some command) r.lexer new token onward u read;
      rows = refl;
      tokens = refl;
    } in
    record {
      row = row;
      steps =
          adds_step command r marks spare new row tokens (order_added goal (Some command) r after (reverse marks) h adds)
          (on_adds_row goal command r after marks spare effect h adds);
      taken = refl;
      holds = record {
        token = refl;
        regex = sym none;
        value = holds_value goal r.lexer new.decoded token read.outcome u read.reads read.token_is read.has_value;
        ordered = rw read.token_is read.reads.text_lies.ordered;
      };
    }

-- A token that was read again, where the last one fits.
pub reads_again : (goal : Goal) (command : Command) (r : RowReaderState) (marks : List SessionMark) (spare : ℕ)
    (new : LexerState) (last : LastRead) → effect_of command ≡ ReLexes goal
    → fits r.lexer.text goal (token_or_default r.lexer.last) ≡ true → IsUtf8 r.lexer.text
    → ReadsAgainAs goal r.lexer last new → IsInOrder r (reverse marks)
    → StepsLive command r marks spare new last (with_last r.tokens last.token)
reads_again goal command r marks spare new last effect fit u again h =
    let read = again.reads in
    let token = last.token in
    let row = row_made (Some command) r.lexer token last.regex read.outcome.value new in
    let tokens = with_last r.tokens token in
    let after = reader_with r new row tokens in
    let taken : AddsAgain goal (Some command) r after =
    record {
      row = row;
      reads = row_read_again goal (Some command) r.lexer new token last.regex u read again.regex;
      rows = refl;
      tokens = refl;
    } in
    let adds : MatchBool (fits r.lexer.text goal (token_or_default r.lexer.last)) (AddsAgain goal (Some command) r after)
    (AddsNotTaken (Some command) r after) =
    subst (λ b. MatchBool b (AddsAgain goal (Some command) r after) (AddsNotTaken (Some command) r after)) (sym fit)
    taken in
    record {
      row = row;
      steps =
          adds_step command r marks spare new row tokens
          (order_re_lexed goal (Some command) r after (reverse marks) h adds)
          (re_lex_adds_row goal command r after marks spare effect h adds);
      taken = refl;
      holds = record {
        token = refl;
        regex = refl;
        value = holds_value goal r.lexer new.decoded token read.outcome u read.reads read.token_is read.has_value;
        ordered = rw read.token_is read.reads.text_lies.ordered;
      };
    }

-- A re-lex that the last token does not fit.
pub not_again : (goal : Goal) (command : Command) (r : RowReaderState) (marks : List SessionMark) (spare : ℕ)
    → effect_of command ≡ ReLexes goal → fits r.lexer.text goal (token_or_default r.lexer.last) ≡ false
    → IsOnPlaces r.lexer.text (token_or_default r.lexer.last) → IsInOrder r (reverse marks)
    → AddsStep command r marks spare r.lexer (not_taken (Some command) r.lexer) r.tokens
not_again goal command r marks spare effect fit lies h =
    let row = not_taken (Some command) r.lexer in
    let after = reader_with r r.lexer row r.tokens in
    let untaken : AddsNotTaken (Some command) r after = record { places = lies; after = refl } in
    let adds : MatchBool (fits r.lexer.text goal (token_or_default r.lexer.last)) (AddsAgain goal (Some command) r after)
    (AddsNotTaken (Some command) r after) =
    subst (λ b. MatchBool b (AddsAgain goal (Some command) r after) (AddsNotTaken (Some command) r after)) (sym fit)
    untaken in
    adds_step command r marks spare r.lexer row r.tokens
    (order_re_lexed goal (Some command) r after (reverse marks) h adds)
    (re_lex_adds_row goal command r after marks spare effect h adds)

-- A token that was peeked at.
pub record StepsAside (r : RowReaderState) (marks : List SessionMark) (spare : ℕ) (new : LexerState) : Type 0 where
  pub row : Row
  pub steps : AddsStep Peek r marks spare new row r.tokens

pub looks_ahead : (r : RowReaderState) (marks : List SessionMark) (spare : ℕ) (new : LexerState) (token : TokenParts)
    → IsUtf8 r.lexer.text → Peeks r.lexer token new → IsInOrder r (reverse marks) → StepsAside r marks spare new
looks_ahead r marks spare new token u peek h =
    let behind : LexerState =
    record (after_outcome NextGoal r.lexer peek.outcome) { decoded = new.decoded } in
    let read : ReadsToken NextGoal r.lexer token behind =
    record {
      outcome = peek.outcome;
      token_is = peek.token_is;
      reads = peek.reads;
      agrees = λ plain. peek.agrees;
      after = record {
        text = refl;
        source_type = refl;
        collects = refl;
        place = refl;
        last = refl;
        tokens = refl;
        findings = refl;
        pure_comments = refl;
        no_side_effects_comments = refl;
      };
      kept = peek.kept;
      has_value = peek.has_value;
    } in
    let row = row_made (Some Peek) r.lexer token None peek.outcome.value behind in
    let after = reader_with r new row r.tokens in
    let adds : AddsPeek NextGoal (Some Peek) r after =
    record {
      row = row;
      behind = behind;
      reads = row_read NextGoal (Some Peek) r.lexer behind token refl u read;
      rows = refl;
      lexer = peek.restored;
      tokens = refl;
    } in
    record {
      row = row;
      steps =
          adds_step Peek r marks spare new row r.tokens
          (order_peeked NextGoal (Some Peek) r after (reverse marks) h adds)
          (peek_adds_row r after marks spare h adds);
    }
