-- What the steps of a reading do to the reader that they work on.
use Rattle.std.specs.Prelude.{◌≡◌, ◌≢◌, ℕ, ◌+◌, ◌<◌, ◌≤◌, Bool, true, false, List, [], ◌++◌, length, Option, Some, None}
use Rattle.std.specs.Prelude.{is_none, ◌||◌, if◌then◌else◌}
use Rattle.js_text.specs.Characters.{begins, from_first, is_line_terminator}
use Rattle.js_text.specs.Comment.{opening_length}
use Rattle.js_text.specs.declared.comment.CommentKind.{CommentKind}
use Rattle.js_text.specs.declared.diagnostic.Diagnostic.{Diagnostic}
use Rattle.js_text.specs.declared.source_type.SourceType.{SourceType}
use Rattle.js_grammar.specs.Attach.{attach}
use Rattle.js_grammar.specs.Gap.{Piece, piece, is_prefix, is_reported, line_comment, whole_gap_piece, Pieces}
use Rattle.js_grammar.specs.Gap.{LongestGap}
use Rattle.js_grammar.specs.Gap.PieceKind.{single_line_comment}
use Rattle.js_grammar.specs.GapItems.{token_before, irregular_of}
use Rattle.js_grammar.specs.Goals.{GoalReads, ReadsBehindGap, ReadsHere}
use Rattle.js_grammar.specs.Hashbang.{begins_hashbang, IsHashbang}
use Rattle.js_grammar.specs.Number.{begins_number}
use Rattle.js_grammar.specs.Outcome.{Outcome, reports}
use Rattle.js_grammar.specs.PieceItems.{found_comment, gap_of, items_of}
use Rattle.js_grammar.specs.Punctuators.{NoPunctuator}
use Rattle.js_grammar.specs.Quoted.{begins_quoted}
use Rattle.js_grammar.specs.Reading.{Reading, reported_at}
use Rattle.js_grammar.specs.Spelling.{begins_named}
use Rattle.js_grammar.specs.declared.goal.Goal.{Goal}
use Rattle.js_grammar.specs.declared.goal.Goal.TheVariants.{First}
use Rattle.js_kind.specs.TokenParts.{TokenParts}
use Rattle.js_kind.specs.declared.kind.Kind.{Kind}
use Rattle.js_trivia.specs.Pieces.{HaveBytes, end_of}
use Rattle.js_trivia.specs.Trivia.{add_comment, calls}
use Rattle.js_reader.specs.Found.{Extends, lists_added}
use Rattle.js_reader.specs.Gaps.{AddsPieces, opening_sequence, piece_kind}
use Rattle.js_reader.specs.declared.findings_builder.FindingsBuilder.{FindingsBuilder}
use Rattle.js_reader.specs.declared.lexeme.Lexeme.{Lexeme}
use Rattle.js_reader.specs.declared.reader.Reader.{Reader}
use Rattle.js_source.specs.Source.{rest}

-- Nothing but the place of the source may have changed.
pub record StaysWithin (old new : Reader) : Type 0 where
  pub source_type : new.source_type ≡ old.source_type
  pub line_has_ended : new.line_has_ended ≡ old.line_has_ended

-- Nothing has changed.
pub record IsUnmoved (old new : Reader) : Type 0 where
  pub source : new.source ≡ old.source
  pub stays : StaysWithin old new

-- the longest gap was skipped, and its pieces were told of; the first of them stands right behind a line comment or not
pub record SkipsGap (behind : Bool) (old : Reader) (before : FindingsBuilder) (new : Reader)
    (after : FindingsBuilder) : Type 0
  where
    pub text : new.source.text ≡ old.source.text
    pub source_type : new.source_type ≡ old.source_type
    pub gap : LongestGap old.source_type old.line_has_ended (rest old.source) new.line_has_ended (rest new.source)
    pub adds : AddsPieces behind old.source_type old.source.place gap.pieces before after

-- what is a longest gap from the new place is one from the old place, with what was skipped in front
abbrev pub Leads : Bool → Reader → FindingsBuilder → Bool → Reader → FindingsBuilder → Type 0
Leads behind old before behind_now new after =
    (later : Reader) (found : FindingsBuilder) → SkipsGap behind_now new after later found
    → SkipsGap behind old before later found

-- pieces of a gap were skipped, at least one, of which the last is no line comment
pub record SkipsSome (old : Reader) (before : FindingsBuilder) (new : Reader) (after : FindingsBuilder) : Type 0 where
  pub text : new.source.text ≡ old.source.text
  pub source_type : new.source_type ≡ old.source_type
  pub leads : Leads false old before false new after
  pub fewer : length (rest new.source) < length (rest old.source)

-- Pieces of a gap were skipped; or none begins here, and nothing has changed.
abbrev pub SkipsPiece : Reader → FindingsBuilder → Bool → Reader → FindingsBuilder → Type 0
SkipsPiece old before true new after = SkipsSome old before new after
SkipsPiece old before false new after =
    IsUnmoved old new × (after ≡ before) × (piece old.source_type old.line_has_ended (rest old.source) ≡ None)

-- a comment of the kind was skipped up to the end of its line, and was told of
pub record IsBehindLine (kind : CommentKind) (old : Reader) (before : FindingsBuilder) (new : Reader)
    (after : FindingsBuilder)
    : Type 0 where
  pub text : new.source.text ≡ old.source.text
  pub stays : StaysWithin old new
  pub behind : List ℕ
  pub here : rest old.source ≡ opening_sequence kind ++ behind
  pub left : rest new.source ≡ from_first is_line_terminator (rest old.source)
  pub onward : old.source.place + opening_length kind ≤ new.source.place
  pub told : after
      ≡ record before {
        trivia =
            add_comment
            (found_comment old.source.place kind
            (line_comment single_line_comment old.line_has_ended (rest old.source))) before.trivia;
      }

-- Such a comment was skipped; or none stands here, and nothing has changed.
abbrev pub SkipsOpenedLine : CommentKind → Reader → FindingsBuilder → Bool → Reader → FindingsBuilder → Type 0
SkipsOpenedLine kind old before true new after = IsBehindLine kind old before new after
SkipsOpenedLine kind old before false new after =
    IsUnmoved old new × (after ≡ before) × (is_prefix (opening_sequence kind) (rest old.source) ≡ false)

-- the line end behind a line comment was skipped, where the text goes on
pub record SkipsEndOfLine (old : Reader) (before : FindingsBuilder) (new : Reader)
    (after : FindingsBuilder) : Type 0 where
  pub text : new.source.text ≡ old.source.text
  pub source_type : new.source_type ≡ old.source_type
  pub leads : Leads true old before false new after
  pub fewer : length (rest new.source) ≤ length (rest old.source)

-- a comment of the kind is the only piece that may stand here
abbrev pub IsOnlyPiece : CommentKind → Reader → Type 0
IsOnlyPiece kind old =
    piece old.source_type old.line_has_ended (rest old.source)
    ≡ (if is_prefix (opening_sequence kind) (rest old.source)
    then Some (line_comment (piece_kind kind) old.line_has_ended (rest old.source))
    else None)

-- Some pieces of a whole gap were skipped and told of.
pub record SkipsPieces (behind : Bool) (old : Reader) (before : FindingsBuilder) (new : Reader)
    (after : FindingsBuilder)
    : Type 0 where
  pub text : new.source.text ≡ old.source.text
  pub source_type : new.source_type ≡ old.source_type
  pub pieces : List Piece
  pub pieces_are : Pieces (whole_gap_piece old.source_type) old.line_has_ended (rest old.source) pieces
      new.line_has_ended (rest new.source)
  pub adds : AddsPieces behind old.source_type old.source.place pieces before after

-- A reported comment was skipped, and the longest gap behind it; or none stands here, and nothing has changed.
abbrev pub SkipsReported : Reader → FindingsBuilder → Bool → Reader → FindingsBuilder → Type 0
SkipsReported old before true new after =
    ((behind : Bool) → SkipsPieces behind old before new after)
    × (piece new.source_type new.line_has_ended (rest new.source) ≡ None)
    × (length (rest new.source) < length (rest old.source))
SkipsReported old before false new after =
    IsUnmoved old new × (after ≡ before) × (is_reported old.source_type old.line_has_ended (rest old.source) ≡ false)

-- The whole gap was skipped: no piece of it follows.
pub record SkipsWholeGap (old : Reader) (before : FindingsBuilder) (new : Reader)
    (after : FindingsBuilder) : Type 0 where
  pub skips : SkipsPieces false old before new after
  pub longest : whole_gap_piece new.source_type new.line_has_ended (rest new.source) ≡ None

-- The reader may have moved on: the text and its type are the same.
pub record MovesOn (old new : Reader) : Type 0 where
  pub text : new.source.text ≡ old.source.text
  pub source_type : new.source_type ≡ old.source_type

-- Something may have been read that could not be read whole: the reader may have moved on, and reported.
pub record ReadsInPart (old : Reader) (before : List Diagnostic) (new : Reader) (after : List Diagnostic) : Type 0
  where
    pub moves : MovesOn old new
    pub errors : Extends before after

-- the kind and the flags of a reading, where the flag tells whether a line has ended before it
abbrev pub lexeme_of : Bool → Reading → Lexeme
lexeme_of line_has_ended reading = record {
  kind = reading.kind;
  is_on_new_line = reading.line_ended || line_has_ended;
  escaped = reading.escaped;
  has_separator = reading.has_separator;
}

-- What stands behind a gap was read, good or faulty, and what was reported of it was added.
pub record ReadsLexeme (old : Reader) (before : List Diagnostic) (lexeme : Lexeme) (new : Reader)
    (after : List Diagnostic) : Type 0 where
  pub text : new.source.text ≡ old.source.text
  pub source_type : new.source_type ≡ old.source_type
  pub reading : Reading
  pub here : ReadsHere old.source_type old.line_has_ended (rest old.source) reading
  pub behind : reading.rest ≡ rest new.source
  pub lexeme_is : lexeme ≡ lexeme_of old.line_has_ended reading
  pub errors : after ≡ before ++ reported_at old.source.place reading

-- the token of a lexeme from start to end
abbrev pub lexeme_token : ℕ → ℕ → Lexeme → TokenParts
lexeme_token start end l = record {
  start = start;
  end = end;
  kind = l.kind;
  is_on_new_line = l.is_on_new_line;
  escaped = l.escaped;
  has_separator = l.has_separator;
}

-- what was read of the kind, without a flag
abbrev pub simple_lexeme : Kind → Bool → Lexeme
simple_lexeme kind line_has_ended =
    record { kind = kind; is_on_new_line = line_has_ended; escaped = false; has_separator = false }

-- the token of the kind from start to end, without another flag
abbrev pub read_token : Bool → ℕ → ℕ → Kind → TokenParts
read_token line_has_ended start end kind = lexeme_token start end (simple_lexeme kind line_has_ended)

-- The token of the lexeme that stands where the reader stood was read.
pub record ReadsTokenHere (old : Reader) (before : List Diagnostic) (token : TokenParts) (new : Reader)
    (after : List Diagnostic) : Type 0 where
  pub lexeme : Lexeme
  pub reads : ReadsLexeme old before lexeme new after
  pub token_is : token ≡ lexeme_token old.source.place new.source.place lexeme

-- What was found is that of the outcome, and the gap before its token was told of; `previous` is the token before it,
-- if
-- there is one.
pub record AddsGap (previous : Option TokenParts) (t : SourceType) (place : ℕ) (outcome : Outcome)
    (before after : FindingsBuilder) : Type 0 where
  pub pieces : List Piece
  pub have_bytes : HaveBytes pieces
  pub up_to : end_of place pieces ≤ outcome.token.start
  pub comments : outcome.findings.comments
      ≡ attach (gap_of (is_none previous) (token_before previous) place pieces outcome.token)
  pub irregular : outcome.findings.irregular ≡ irregular_of (items_of place pieces)
  pub added : after
      ≡ record (lists_added outcome.findings before) { trivia = calls (items_of place pieces) before.trivia }

-- A reading of a goal, behind the token `previous`: the token is that of the outcome, and the reader stands at its end.
pub record ReadsGoal (goal : Goal) (previous : Option TokenParts) (old : Reader) (token : TokenParts) (new : Reader)
    : Type 0 where
  pub text : new.source.text ≡ old.source.text
  pub source_type : new.source_type ≡ old.source_type
  pub end : new.source.place ≡ token.end
  pub outcome : Outcome
  pub token_is : token ≡ outcome.token
  pub reads : GoalReads old.source.text old.source_type goal previous old.source.place outcome

-- a reading with a gap before its token, which was told of
pub record ReadsWithGap (goal : Goal) (previous : Option TokenParts) (old : Reader) (before : FindingsBuilder)
    (token : TokenParts) (new : Reader) (after : FindingsBuilder) : Type 0 where
  pub read : ReadsGoal goal previous old token new
  pub gap : AddsGap previous old.source_type old.source.place read.outcome before after

-- a reading without a gap: what was found is reported, and nothing else was found
pub record ReadsWithoutGap (goal : Goal) (previous : Option TokenParts) (old : Reader) (before : List Diagnostic)
    (token : TokenParts) (new : Reader) (after : List Diagnostic) : Type 0 where
  pub read : ReadsGoal goal previous old token new
  pub findings : read.outcome.findings ≡ reports read.outcome.findings.diagnostics
  pub errors : after ≡ before ++ read.outcome.findings.diagnostics

-- a reading that reports nothing, and has no gap
abbrev pub ReadsSilently : Goal → Option TokenParts → Reader → TokenParts → Reader → Type 0
ReadsSilently goal previous old token new =
    (errors : List Diagnostic) → ReadsWithoutGap goal previous old errors token new errors

-- a token behind a whole gap, and what was reported up to its end
pub record ReadsBehind (previous : Option TokenParts) (old : Reader) (before : FindingsBuilder) (token : TokenParts)
    (new : Reader) (after : FindingsBuilder) : Type 0 where
  pub text : new.source.text ≡ old.source.text
  pub source_type : new.source_type ≡ old.source_type
  pub end : new.source.place ≡ token.end
  pub outcome : Outcome
  pub token_is : token ≡ outcome.token
  pub reads : ReadsBehindGap old.source.text old.source_type previous old.source.place outcome
  pub gap : AddsGap previous old.source_type old.source.place outcome before after

-- the hashbang comment from the start of the text up to the place of the reader
pub record IsHashbangRead (old : Reader) (token : TokenParts) (new : Reader) : Type 0 where
  pub text : new.source.text ≡ old.source.text
  pub within : StaysWithin old new
  pub end : new.source.place ≡ token.end
  pub at_start : old.source.place ≡ 0
  pub begins : begins_hashbang First old.source.text old.source.place ≡ true
  pub is_hashbang : IsHashbang old.source.text token
  pub is_on_new_line : token.is_on_new_line ≡ old.line_has_ended
  pub escaped : token.escaped ≡ false
  pub has_separator : token.has_separator ≡ false

-- A hashbang comment was read; or none stands here, and nothing has changed.
abbrev pub ReadsHashbang : Reader → Option TokenParts → Reader → Type 0
ReadsHashbang old (Some token) new = IsHashbangRead old token new
ReadsHashbang old None new =
    (begins_hashbang First old.source.text old.source.place ≡ false) × IsUnmoved old new

-- No name, private or not, no number, no string, no template and no punctuator begins the text, which is not at its
-- end.
pub record NothingHere (t : SourceType) (line_has_ended : Bool) (here : List ℕ) : Type 0 where
  pub some : here ≢ []
  pub no_named : begins begins_named here ≡ false
  pub no_number : begins_number here ≡ false
  pub no_quoted : begins begins_quoted here ≡ false
  pub no_punctuator : NoPunctuator t line_has_ended here
