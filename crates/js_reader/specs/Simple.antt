-- Readings that need the source alone.
use Rattle.std.specs.Prelude.{◌≡◌, ◌<◌, ℕ, zero, suc, Bool, true, false, List, length, None}
use Rattle.js_text.specs.Characters.{is_identifier_start}
use Rattle.js_text.specs.declared.diagnostic.Diagnostic.{Diagnostic}
use Rattle.js_text.specs.declared.source_type.SourceType.{SourceType}
use Rattle.js_grammar.specs.Gap.{whole_gap_piece}
use Rattle.js_kind.specs.TokenParts.{TokenParts}
use Rattle.js_kind.specs.declared.kind.Kind.{Kind}
use Rattle.js_source.specs.Source.{At, rest, HasFirstByte}
use Rattle.js_trivia.specs.Trivia.{Trivia, handle_newline}
use Rattle.js_reader.specs.Reader.{simple_lexeme, Leads, SkipsWholeGap, ReadsLexeme, ReadsTokenHere}
use Rattle.js_reader.specs.declared.findings_builder.FindingsBuilder.{FindingsBuilder}
use Rattle.js_reader.specs.declared.simple.GapEnd.{GapEnd}
use Rattle.js_reader.specs.declared.simple.GapEnd.TheVariants.{Name, Symbol, Other}
use Rattle.js_reader.specs.declared.reader.Reader.{Reader}

-- a reader at another place, where a line has ended or not
abbrev pub moved : Reader → At → Bool → Reader
moved r source line_has_ended = record r { source = source; line_has_ended = line_has_ended }

-- the builder, told of so many line ends
abbrev pub after_ends : ℕ → Trivia → Trivia
after_ends zero s = s
after_ends (suc n) s = handle_newline (after_ends n s)

-- what was found, with so many line ends
abbrev pub ends_told : ℕ → FindingsBuilder → FindingsBuilder
ends_told n found = record found { trivia = after_ends n found.trivia }

-- Pieces of a gap were passed of which there is nothing to tell but line ends, whatever reader stands there.
pub record PassesPieces (old : At) (line_had_ended : Bool) (new : At) (line_has_ended : Bool) : Type 0 where
  pub ends : ℕ
  pub leads : (r : Reader) (before : FindingsBuilder)
      → Leads false (moved r old line_had_ended) before false (moved r new line_has_ended) (ends_told ends before)

-- Some more such pieces were passed, whatever stands before them.
pub record GoesOnWithGap (old : At) (line_had_ended : Bool) (new : At) (line_has_ended : Bool) : Type 0 where
  pub fewer : length (rest new) < length (rest old)
  pub passes : (start : At) (had : Bool) → PassesPieces start had old line_had_ended
      → PassesPieces start had new line_has_ended

-- A whole gap was passed in which there is nothing to tell of but line ends, whatever reader stands there.
pub record PassesSimpleGap (old : At) (line_had_ended : Bool) (new : At) (line_has_ended : Bool) : Type 0 where
  pub ends : ℕ
  pub skips : (r : Reader) (before : FindingsBuilder)
      → SkipsWholeGap (moved r old line_had_ended) before (moved r new line_has_ended) (ends_told ends before)

-- no piece of a whole gap stands here, whatever source it is
abbrev pub EndsGap : Bool → List ℕ → Type 0
EndsGap line_has_ended here = (t : SourceType) → whole_gap_piece t line_has_ended here ≡ None

-- and an ASCII character does
pub record EndsGapInAscii (b : ℕ) (line_has_ended : Bool) (here : List ℕ) : Type 0 where
  pub ascii : b < 128
  pub ends : EndsGap line_has_ended here

-- A simple gap was passed, and the byte is next behind it, an ASCII character.
pub record MeetsByte (b : ℕ) (old : At) (line_had_ended : Bool) (new : At) (line_has_ended : Bool) : Type 0 where
  pub gap : PassesSimpleGap old line_had_ended new line_has_ended
  pub ascii : b < 128
  pub next : HasFirstByte b (rest new)
  pub ends : EndsGap line_has_ended (rest new)

-- what ends a simple gap
abbrev pub EndsAt : GapEnd → At → Bool → At → Bool → Type 0
EndsAt (Name b) old had new has = MeetsByte b old had new has × (is_identifier_start b ≡ true)
EndsAt (Symbol b) old had new has = MeetsByte b old had new has
EndsAt Other old had new has = Unit {0}

-- What stands behind a gap was read, good and without a flag, where the reader stands there.
abbrev pub SpellsFor : Reader → Bool → At → At → Kind → Type 0
SpellsFor r line_has_ended old new kind =
    (errors : List Diagnostic)
    → ReadsLexeme (moved r old line_has_ended) errors (simple_lexeme kind line_has_ended) (moved r new line_has_ended)
    errors

-- The same, whatever reader stands there.
abbrev pub SpellsSimply : Bool → At → At → Kind → Type 0
SpellsSimply line_has_ended old new kind = (r : Reader) → SpellsFor r line_has_ended old new kind

-- A token behind such a gap was read, whatever reader stands there.
pub record ReadsSimpleToken (old : At) (line_had_ended : Bool) (token : TokenParts) (new : At) : Type 0 where
  pub mid : At
  pub line_has_ended : Bool
  pub gap : PassesSimpleGap old line_had_ended mid line_has_ended
  pub here : (r : Reader) (errors : List Diagnostic)
      → ReadsTokenHere (moved r mid line_has_ended) errors token (moved r new line_has_ended) errors
  pub escaped : token.escaped ≡ false
