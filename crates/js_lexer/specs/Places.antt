-- The places that are reserved for the tokens of a lexer.
use Rattle.std.specs.Prelude.{◌≡◌, ◌≢◌, ℕ, ◌+◌, ◌<◌, ◌≤◌, Bool, true, List, [], ◌∷◌, length}
use Rattle.std.specs.Prelude.{Option, Some, None, IfSome}
use Rattle.std.specs.List.{Contains}
use Rattle.js_text.specs.declared.source_type.SourceType.{SourceType}
use Rattle.js_grammar.specs.GapItems.{token_before}
use Rattle.js_grammar.specs.declared.goal.Goal.{Goal}
use Rattle.js_kind.specs.TokenParts.{TokenParts}
use Rattle.js_kind.specs.declared.kind.Kind.TheVariants.{Eof}
use Rattle.js_lexer.specs.Lexer.{Checkpoint, IsRestored, LexerState, LexesAgain, Peeks, ReadsToken, collected, fresh}
use Rattle.js_lexer.specs.Lexer.{rewound}

-- how many places for tokens there are: those of the collected ones, and those that are free
abbrev pub places : LexerState → ℕ
places l = length l.tokens + l.free

-- No place was given up.
abbrev pub KeepsPlaces : LexerState → LexerState → Type 0
KeepsPlaces old new = places old ≤ places new

-- how many of the collected tokens are the last token
abbrev pub own_count : Bool → Option TokenParts → ℕ
own_count collects None = 0
own_count collects (Some token) = length (collected collects token)

-- So many collected tokens, without the last token's own, are at most as many as the bytes before its start.
abbrev pub AreSparse : Bool → Option TokenParts → ℕ → Type 0
AreSparse collects last tokens = tokens ≤ (token_before last).start + own_count collects last

-- A lexer has collected few tokens for the bytes that it has read.
abbrev pub IsSparse : LexerState → Type 0
IsSparse l = AreSparse l.collects l.last (length l.tokens)

-- and so had one at the checkpoint
abbrev pub IsSparseCheckpoint : Bool → Checkpoint → Type 0
IsSparseCheckpoint collects c = AreSparse collects c.last c.tokens

-- Nothing was read yet, or the last token has a byte.
abbrev pub HasByte : LexerState → Type 0
HasByte l = IfSome l.last (λ token. token.start < token.end)

-- A reading gives up no place. A sparse lexer stays so, if nothing was read before or the last token has a byte.
pub record ReadsInPlaces (old new : LexerState) : Type 0 where
  pub count : KeepsPlaces old new
  pub sparse : IsSparse old → HasByte old → IsSparse new

-- No place was given up, and a sparse lexer stays so.
pub record StaysInPlaces (old new : LexerState) : Type 0 where
  pub count : KeepsPlaces old new
  pub sparse : IsSparse old → IsSparse new

-- The last token is no end of the source that was read.
abbrev pub IsBeforeEnd : LexerState → Type 0
IsBeforeEnd l = IfSome l.last (λ token. token.kind ≢ Eof)

-- As many tokens in as many places, and the same last token.
pub record HoldsAsMany (old new : LexerState) : Type 0 where
  pub text : new.text ≡ old.text
  pub collects : new.collects ≡ old.collects
  pub last : new.last ≡ old.last
  pub tokens : length new.tokens ≡ length old.tokens
  pub free : new.free ≡ old.free

-- a checkpoint of the lexer, with a copy of what was reported or without
pub record IsCheckpointOf (l : LexerState) (c : Checkpoint) : Type 0 where
  pub last : c.last ≡ l.last
  pub tokens : c.tokens ≡ length l.tokens

-- What a call makes of a lexer, behind earlier ones: a reading or a peek, where the last token is no end of the source;
-- a token that is read again; no memory for any of them; a rewind to one of its own checkpoints; or a change of its
-- lists that leaves it as many tokens and places. These are all calls but `take_tokens`, `set_tokens` and
-- `finalize_tokens`.
pub data Call (earlier : List LexerState) (old new : LexerState) : Type 0 where
  reads : (goal : Goal) (token : TokenParts) → IsBeforeEnd old → ReadsToken goal old token new
      → ReadsInPlaces old new → Call earlier old new
  reads_again : (goal : Goal) (token : TokenParts) → LexesAgain goal old token new → StaysInPlaces old new
      → Call earlier old new
  peeks : (token : TokenParts) → IsBeforeEnd old → Peeks old token new → StaysInPlaces old new → Call earlier old new
  finds_no_memory : IsRestored old new → KeepsPlaces old new → Call earlier old new
  goes_back : (to : LexerState) (c : Checkpoint) → Contains (old ∷ earlier) to → IsCheckpointOf to c
      → new ≡ rewound old c → Call earlier old new
  changes_lists : HoldsAsMany old new → Call earlier old new

-- The states of a lexer, the last one first: it collects tokens, begins with nothing read, and each call makes the next
-- state.
abbrev pub AreCalls : List ℕ → SourceType → List LexerState → Type 0
AreCalls text t [] = ⊥
AreCalls text t (l ∷ []) = l ≡ fresh text t true
AreCalls text t (new ∷ old ∷ earlier) = Call earlier old new × AreCalls text t (old ∷ earlier)
