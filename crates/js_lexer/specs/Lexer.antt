-- How contracts see a lexer, its checkpoints and its readings.
use Rattle.std.specs.Prelude.{◌≡◌, ◌≢◌, ℕ, ◌+◌, ◌-◌, ◌<◌, ◌≤◌, Bool, true, List, [], ◌∷◌, ◌++◌, ◌&&◌, ◌==◌, not, length}
use Rattle.std.specs.Prelude.{false, take, Option, Some, None, IfSome, is_none, is_some, unwrap_or, if◌then◌else◌}
use Rattle.std.specs.List.{last_or}
use Rattle.std.specs.Str.{IsCharBoundary}
use Rattle.js_places.specs.Reserved.{Reserved}
use Rattle.js_text.specs.Lists.{with_last}
use Rattle.js_text.specs.declared.comment.Comment.{Comment}
use Rattle.js_text.specs.declared.comment.CommentContent.{CommentContent}
use Rattle.js_text.specs.declared.comment.CommentRange.{CommentRange}
use Rattle.js_text.specs.declared.diagnostic.Diagnostic.{Diagnostic}
use Rattle.js_text.specs.declared.source_type.SourceType.{SourceType}
use Rattle.js_grammar.specs.GapItems.{token_before}
use Rattle.js_grammar.specs.Goals.{GoalReads, AgreesWithGrammar}
use Rattle.js_grammar.specs.Outcome.{Findings, FindingLengths, no_findings, joined, lengths_of, cut_to}
use Rattle.js_grammar.specs.Outcome.{AreWithin, Outcome}
use Rattle.js_grammar.specs.Reads.{is_onward, is_plain}
use Rattle.js_grammar.specs.ReLexed.{HasSpelling, again_kinds}
use Rattle.js_grammar.specs.Values.{HasText}
use Rattle.js_grammar.specs.declared.goal.Goal.{Goal}
use Rattle.js_grammar.specs.declared.goal.Goal.TheVariants.{Next, JsxChild}
use Rattle.js_source.specs.Source.{At}
use Rattle.js_trivia.specs.Attachment.{between_gaps}
use Rattle.js_trivia.specs.Trivia.{Trivia, HeldBefore, extend_if, is_past, is_pure_not_applied}
use Rattle.js_trivia.specs.Trivia.{is_no_side_effects_not_applied, comment_starts, span_starts, AreRangesUpTo}
use Rattle.js_trivia.specs.declared.lengths.TriviaLengths.{TriviaLengths}
use Rattle.js_reader.specs.Decoded.{Values, no_values, AreValues, Keeps, HasValue}
use Rattle.js_reader.specs.Found.{findings_in}
use Rattle.js_reader.specs.declared.findings_builder.FindingsBuilder.{FindingsBuilder}
use Rattle.js_reader.specs.declared.reader.Reader.{Reader}
use Rattle.js_kind.specs.Kinds.{is_one_of, number}
use Rattle.js_kind.specs.TokenParts.{TokenParts, default_parts}
use Rattle.js_kind.specs.declared.kind.Kind.{Kind}
use Rattle.js_kind.specs.declared.kind.Kind.TheVariants.{Eof, HashbangComment}

-- A lexer: its text and the type of that, whether it collects tokens, its place, the last token if one was read, the
-- collected tokens and how many places for more are free, what its readings have found, where the annotations before
-- the last token are among the comments, and the decoded values of tokens that were read.
pub record LexerState : Type 0 where
  pub text : List ℕ
  pub source_type : SourceType
  pub collects : Bool
  pub place : ℕ
  pub last : Option TokenParts
  pub tokens : List TokenParts
  pub free : ℕ
  pub findings : Findings
  pub pure_comments : Option CommentRange
  pub no_side_effects_comments : Option CommentRange
  pub decoded : Values

-- the last token, which the builder of trivia has, where one was read
abbrev pub last_read : Bool → TokenParts → Option TokenParts
last_read false previous = None
last_read true previous = Some previous

-- the lexer of these parts
abbrev pub lexer_of : Bool → Reader → FindingsBuilder → Bool → Reserved TokenParts → Values → LexerState
lexer_of collects reader found has_read tokens decoded = record {
  text = reader.source.text;
  source_type = reader.source_type;
  collects = collects;
  place = reader.source.place;
  last = last_read has_read found.trivia.attachment.previous;
  tokens = tokens.items;
  free = tokens.free;
  findings = findings_in found;
  pure_comments = found.trivia.pure_comments;
  no_side_effects_comments = found.trivia.no_side_effects_comments;
  decoded = decoded;
}

-- hashbang comments alone
abbrev pub is_hashbang : Kind → Bool
is_hashbang kind = number kind == number HashbangComment

-- What a token adds to the collected ones: itself, where tokens are collected and it is no hashbang comment.
abbrev pub collected : Bool → TokenParts → List TokenParts
collected collects token = if collects && not (is_hashbang token.kind) then token ∷ [] else []

-- How many places are reserved for the tokens of a text: one for each byte and one for its end, where tokens are
-- collected.
abbrev pub reserved_places : Bool → ℕ → ℕ
reserved_places collects bytes = if collects then bytes + 1 else 0

-- a lexer that has read nothing
abbrev pub fresh : List ℕ → SourceType → Bool → LexerState
fresh text t collects = record {
  text = text;
  source_type = t;
  collects = collects;
  place = 0;
  last = None;
  tokens = [];
  free = reserved_places collects (length text);
  findings = no_findings;
  pure_comments = None;
  no_side_effects_comments = None;
  decoded = no_values;
}

-- a lexer behind a token, with this as the one that it has read last, and with nothing else
abbrev pub resumed : List ℕ → SourceType → Bool → TokenParts → LexerState
resumed text t collects token = record (fresh text t collects) {
  place = token.end;
  last = Some token;
  tokens = collected collects token;
  free = reserved_places collects (length text) - length (collected collects token);
}

-- A token was read, and no annotation is known to stand before it.
pub record IsSettled (l : LexerState) : Type 0 where
  pub has_read : is_none l.last ≡ false
  pub no_pure : l.pure_comments ≡ None
  pub no_without_side_effects : l.no_side_effects_comments ≡ None

-- the place of a lexer in its text
pub record StandsAt (l : LexerState) (at : At) : Type 0 where
  pub text : at.text ≡ l.text
  pub place : at.place ≡ l.place

-- what holds of it
abbrev pub HoldsHere : LexerState → (At → Type 0) → Type 0
HoldsHere l holds = (at : At) × (StandsAt l at × holds at)

-- the token, or the default token where none was read yet
abbrev pub token_or_default : Option TokenParts → TokenParts
token_or_default last = unwrap_or last default_parts

-- the token has its ends, in order, on places of the text
pub record IsOnPlaces (text : List ℕ) (token : TokenParts) : Type 0 where
  pub start : IsCharBoundary text token.start
  pub end : IsCharBoundary text token.end
  pub ordered : token.start ≤ token.end

-- The last token lies on places of the text, up to the lexer's place, with the spelling of its kind if it may be read
-- again; no comment waits for a token; comments and irregular white space start before the last token; and decoded
-- values are those of tokens of the text.
pub record IsSound (here : At) (last : Option TokenParts) (trivia : Trivia) (decoded : Values) : Type 0 where
  pub last_lies : IfSome last (IsOnPlaces here.text)
  pub last_spelled : IfSome last (HasSpelling here.text)
  pub behind : (token_before last).end ≤ here.place
  pub attachment : trivia.attachment ≡ between_gaps trivia.attachment.attached (is_none last) (token_before last)
  pub held : HeldBefore (token_before last).start trivia
  pub are_values : AreValues here.text decoded

-- The parts of a lexer that a rewind, a peek and a call that finds no memory restore: all but decoded values, which
-- stay.
pub record IsRestored (old new : LexerState) : Type 0 where
  pub text : new.text ≡ old.text
  pub source_type : new.source_type ≡ old.source_type
  pub collects : new.collects ≡ old.collects
  pub place : new.place ≡ old.place
  pub last : new.last ≡ old.last
  pub tokens : new.tokens ≡ old.tokens
  pub findings : new.findings ≡ old.findings
  pub pure_comments : new.pure_comments ≡ old.pure_comments
  pub no_side_effects_comments : new.no_side_effects_comments ≡ old.no_side_effects_comments

-- the places, once the token is collected: one less is free, if one was
abbrev pub with_token : Bool → TokenParts → Reserved TokenParts → Reserved TokenParts
with_token collects token l = record {
  items = l.items ++ collected collects token;
  free = l.free - length (collected collects token);
}

-- the places, once the token stands in the place of the last collected one, where tokens are collected
abbrev pub with_token_again : Bool → TokenParts → Reserved TokenParts → Reserved TokenParts
with_token_again collects token l = record l { items = if collects then with_last l.items token else l.items }

-- Where comments of the class are, from the first of them to the last; the first comment has this index.
abbrev pub range_of : (CommentContent → Bool) → ℕ → Option CommentRange → List Comment → Option CommentRange
range_of is_noted index range [] = range
range_of is_noted index range (c ∷ cs) =
    range_of is_noted (index + 1) (extend_if (is_noted c.content) index range) cs

-- Where annotations are known to be as a reading of the goal begins: before a gap those of the gap before are
-- forgotten. A child of JSX has no gap, and leaves them.
abbrev pub range_before : Goal → Option CommentRange → Option CommentRange
range_before JsxChild range = range
range_before _ range = None

-- what the builder of trivia holds as a reading of the goal begins
abbrev pub trivia_before : Goal → Trivia → Trivia
trivia_before goal s = record s {
  pure_comments = range_before goal s.pure_comments;
  no_side_effects_comments = range_before goal s.no_side_effects_comments;
}

-- the lexer behind a token of the goal that was read, with what was found on the way
abbrev pub after_outcome : Goal → LexerState → Outcome → LexerState
after_outcome goal l outcome = record l {
  place = outcome.token.end;
  last = Some outcome.token;
  tokens = l.tokens ++ collected l.collects outcome.token;
  findings = joined l.findings outcome.findings;
  pure_comments =
      range_of is_pure_not_applied (length l.findings.comments) (range_before goal l.pure_comments)
      outcome.findings.comments;
  no_side_effects_comments =
      range_of is_no_side_effects_not_applied (length l.findings.comments)
      (range_before goal l.no_side_effects_comments) outcome.findings.comments;
}

-- The lexer after a re-lex: its token stands in the place of the last one, and of the last collected one.
abbrev pub after_re_lex : LexerState → Outcome → LexerState
after_re_lex l outcome = record l {
  place = outcome.token.end;
  last = Some outcome.token;
  tokens = if l.collects then with_last l.tokens outcome.token else l.tokens;
  findings = joined l.findings outcome.findings;
}

-- A reading of a goal from a lexer's place: what it gives, and where its token and the text of that lie. The token of a
-- goal that goes on starts at that place, or behind it.
pub record ReadsOutcome (goal : Goal) (l : LexerState) (outcome : Outcome) : Type 0 where
  pub reads : GoalReads l.text l.source_type goal l.last l.place outcome
  pub onward : is_onward goal ≡ true → l.place ≤ outcome.token.start
  pub places : IsOnPlaces l.text outcome.token
  pub some_text : outcome.token.kind ≢ Eof → outcome.token.start < outcome.token.end
  pub text_lies : HasText l.text outcome.token
  pub spelling : HasSpelling l.text outcome.token

-- A token that was read again, in the place of the last one.
pub record LexesAgain (goal : Goal) (old : LexerState) (token : TokenParts) (new : LexerState) : Type 0 where
  pub outcome : Outcome
  pub token_is : token ≡ outcome.token
  pub reads : ReadsOutcome goal old outcome
  pub after : IsRestored (after_re_lex old outcome) new
  pub kept : Keeps old.decoded new.decoded
  pub has_value : HasValue old.text new.decoded token

-- One reading: the token is that of the goal's reading from the lexer's place, and nothing changed but by that reading.
-- A reading of a plain goal agrees with the grammar.
pub record ReadsToken (goal : Goal) (old : LexerState) (token : TokenParts) (new : LexerState) : Type 0 where
  pub outcome : Outcome
  pub token_is : token ≡ outcome.token
  pub reads : ReadsOutcome goal old outcome
  pub agrees : is_plain goal ≡ true → AgreesWithGrammar old.text old.source_type goal old.last old.place outcome
  pub after : IsRestored (after_outcome goal old outcome) new
  pub kept : Keeps old.decoded new.decoded
  pub has_value : HasValue old.text new.decoded token

-- The next token was read.
abbrev pub ReadsNext : LexerState → LexerState → Type 0
ReadsNext old new = (token : TokenParts) × ReadsToken Next old token new

-- The lexer stands behind its last token, which the goal may read again.
pub record IsBehindFor (goal : Goal) (l : LexerState) : Type 0 where
  pub token : TokenParts
  pub last : l.last ≡ Some token
  pub kind_is : is_one_of (again_kinds goal) token.kind ≡ true
  pub place : l.place ≡ token.end

-- the kind of the last token, and the kind of the default token before the first
abbrev pub kind_of_last : LexerState → Kind
kind_of_last l = (token_or_default l.last).kind

-- A checkpoint: the place, the last token, the last collected one, how long the lists were, a copy of what was reported
-- if one was made, and where the annotations before the last token were.
pub record Checkpoint : Type 0 where
  pub place : ℕ
  pub last : Option TokenParts
  pub last_collected : Option TokenParts
  pub tokens : ℕ
  pub lengths : FindingLengths
  pub errors : Option (List Diagnostic)
  pub pure_comments : Option CommentRange
  pub no_side_effects_comments : Option CommentRange

-- What a checkpoint keeps for the trivia builder tells the last token, which ends up to the place, and ranges of
-- comments that it counts.
pub record IsBehindToken (place : ℕ) (last : Option TokenParts) (lengths : TriviaLengths) : Type 0 where
  pub behind : (token_before last).end ≤ place
  pub saw_newline : lengths.saw_newline ≡ is_none last
  pub saw_newline_for_comment : lengths.saw_newline_for_comment ≡ is_none last
  pub previous : lengths.previous ≡ token_before last
  pub ranges : AreRangesUpTo lengths.comments lengths.pure_range lengths.no_side_effects

abbrev pub checkpoint_of : LexerState → Checkpoint
checkpoint_of l = record {
  place = l.place;
  last = l.last;
  last_collected = last_or None l.tokens;
  tokens = length l.tokens;
  lengths = lengths_of l.findings;
  errors = None;
  pure_comments = l.pure_comments;
  no_side_effects_comments = l.no_side_effects_comments;
}

-- the same, with a copy of what was reported
abbrev pub checkpoint_with_errors_of : LexerState → Checkpoint
checkpoint_with_errors_of l = record (checkpoint_of l) { errors = Some l.findings.diagnostics }

-- How long the lists have to be to go back: as long as they were. Of diagnostics none are asked for where there is a
-- copy of them.
abbrev pub asked_lengths : Checkpoint → FindingLengths
asked_lengths c = record c.lengths { diagnostics = if is_some c.errors then 0 else c.lengths.diagnostics }

-- The lexer may go back to the checkpoint: its places are places of the text, its last token has the spelling of its
-- kind if it may be read again, the lists are long enough, and the comments and the irregular white space that stay
-- start before that token.
pub record CanRewind (l : LexerState) (c : Checkpoint) : Type 0 where
  pub place : IsCharBoundary l.text c.place
  pub last : IfSome c.last (IsOnPlaces l.text)
  pub spelling : IfSome c.last (HasSpelling l.text)
  pub tokens : c.tokens ≤ length l.tokens
  pub findings : AreWithin (asked_lengths c) l.findings
  pub comments : is_past (token_before c.last).start (comment_starts (take c.lengths.comments l.findings.comments))
      ≡ true
  pub irregular : is_past (token_before c.last).start (span_starts (take c.lengths.irregular l.findings.irregular))
      ≡ true

-- the list with another last element, where one is given
abbrev pub put_back : List TokenParts → Option TokenParts → List TokenParts
put_back tokens None = tokens
put_back tokens (Some token) = with_last tokens token

-- the findings with this copy of what was reported, where there is one
abbrev pub put_errors_back : Option (List Diagnostic) → Findings → Findings
put_errors_back errors found = record found { diagnostics = unwrap_or errors found.diagnostics }

-- The lexer, back at the checkpoint. The places of the tokens that were collected since are free again.
abbrev pub rewound : LexerState → Checkpoint → LexerState
rewound l c = record l {
  place = c.place;
  last = c.last;
  tokens = put_back (take c.tokens l.tokens) c.last_collected;
  free = l.free + (length l.tokens - c.tokens);
  findings = put_errors_back c.errors (cut_to c.lengths l.findings);
  pure_comments = c.pure_comments;
  no_side_effects_comments = c.no_side_effects_comments;
}

-- the list now begins with the earlier one, whose last element alone may be another by now
abbrev pub BeginsAlike : List TokenParts → List TokenParts → Type 0
BeginsAlike [] now = Unit {0}
BeginsAlike (t ∷ ts) [] = ⊥
BeginsAlike (t ∷ []) (n ∷ ns) = Unit {0}
BeginsAlike (t ∷ u ∷ ts) (n ∷ ns) = (n ≡ t) × BeginsAlike (u ∷ ts) ns

-- The lexer went on from an earlier state: it has the same text, and each list begins with the earlier one, the last
-- collected token aside.
pub record GoesOnFrom (old now : LexerState) : Type 0 where
  pub text : now.text ≡ old.text
  pub source_type : now.source_type ≡ old.source_type
  pub collects : now.collects ≡ old.collects
  pub tokens : BeginsAlike old.tokens now.tokens
  pub findings : Findings
  pub goes_on : now.findings ≡ joined old.findings findings

-- a lexer with other diagnostics, as where some were taken back
abbrev pub with_diagnostics : List Diagnostic → LexerState → LexerState
with_diagnostics diagnostics l = record l { findings = record l.findings { diagnostics = diagnostics } }

-- a lexer with other comments, as where some were marked
abbrev pub with_comments : List Comment → LexerState → LexerState
with_comments comments l = record l { findings = record l.findings { comments = comments } }

-- a peek: the token is what a reading would give, and the lexer is as before
pub record Peeks (old : LexerState) (token : TokenParts) (new : LexerState) : Type 0 where
  pub restored : IsRestored old new
  pub kept : Keeps old.decoded new.decoded
  pub outcome : Outcome
  pub token_is : token ≡ outcome.token
  pub reads : ReadsOutcome Next old outcome
  pub agrees : AgreesWithGrammar old.text old.source_type Next old.last old.place outcome
  pub has_value : HasValue old.text new.decoded token
