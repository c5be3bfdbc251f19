-- A place for a token is free before each reading.
use Rattle.std.proofs.Common.{◌≡◌, ◌≢◌, ℕ, ◌+◌, ◌<◌, ◌≤◌, Bool, true, List, [], ◌∷◌, length, refl, sym, ◌∙◌, ap, subst}
use Rattle.std.proofs.Common.{zero, suc, arith, Option, None, Some}
use Rattle.std.specs.Prelude.{IfSome, slice_index_or}
use Rattle.std.specs.List.{AllByRecursion, Contains}
use Rattle.js_text.specs.declared.source_type.SourceType.{SourceType}
use Rattle.js_grammar.specs.GapItems.{token_before}
use Rattle.js_grammar.specs.Outcome.{Outcome}
use Rattle.js_grammar.specs.declared.goal.Goal.{Goal}
use Rattle.js_kind.specs.TokenParts.{TokenParts}
use Rattle.js_kind.specs.declared.kind.Kind.TheVariants.{Eof}
use Rattle.js_lexer.specs.Lexer.{Checkpoint, LexerState, ReadsOutcome, fresh, rewound}
use Rattle.js_lexer.specs.Places.{AreCalls, AreSparse, Call, IsBeforeEnd, IsCheckpointOf, IsSparse}
use Rattle.js_lexer.specs.Places.{places}
use Rattle.js_lexer.specs.Places.Call.{reads, reads_again, peeks, finds_no_memory, goes_back, changes_lists}
use Rattle.js_lexer.proofs.Sparse.{at_most_one, places_rewound, sparse_back, sparse_rewound}

-- A lexer over the text, with few tokens for the bytes that it has read, and a place for each that may come.
record HasRoom (text : List ℕ) (l : LexerState) : Type 0 where
  text_is : l.text ≡ text
  collects : l.collects ≡ true
  sparse : IsSparse l
  byte : IfSome l.last (λ token. token.kind ≢ Eof → token.start < token.end)
  ends : (token_before l.last).end ≤ length text
  count : length text + 1 ≤ places l

few_tokens : (collects : Bool) (last : Option TokenParts) (tokens bytes : ℕ) → AreSparse collects last tokens
    → IfSome last (λ token. token.kind ≢ Eof → token.start < token.end) → IfSome last (λ token. token.kind ≢ Eof)
    → (token_before last).end ≤ bytes → tokens ≤ bytes
few_tokens collects None tokens bytes sparse byte before ends = omega (arith, sparse)
few_tokens collects (Some token) tokens bytes sparse byte before ends =
    omega (arith, sparse, byte before, ends, at_most_one collects token)

with_byte : (last : Option TokenParts) → IfSome last (λ token. token.kind ≢ Eof → token.start < token.end)
    → IfSome last (λ token. token.kind ≢ Eof) → IfSome last (λ token. token.start < token.end)
with_byte None byte before = tt
with_byte (Some token) byte before = byte before

room_at_first : (text : List ℕ) (t : SourceType) → HasRoom text (fresh text t true)
room_at_first text t = record {
  text_is = refl;
  collects = refl;
  sparse = omega arith;
  byte = tt;
  ends = omega arith;
  count = omega arith;
}

-- a lexer behind a token that was read, or read again
behind_token : (text : List ℕ) (goal : Goal) (old new : LexerState) (o : Outcome) → HasRoom text old
    → ReadsOutcome goal old o → new.text ≡ old.text → new.collects ≡ old.collects → new.last ≡ Some o.token
    → IsSparse new → places old ≤ places new → HasRoom text new
behind_token text goal old new o room read same collects last sparse count = record {
  text_is = same ∙ room.text_is;
  collects = collects ∙ room.collects;
  sparse = sparse;
  byte = rw last read.some_text;
  ends =
      let end = ap (λ b. (token_before b).end) last in
      omega (arith, read.places.end.0, end, ap length room.text_is);
  count = omega (arith, room.count, count);
}

-- a lexer with the last token of another
with_last_of : (text : List ℕ) (old new to : LexerState) → HasRoom text old → HasRoom text to → new.text ≡ old.text
    → new.collects ≡ old.collects → new.last ≡ to.last → IsSparse new → places old ≤ places new → HasRoom text new
with_last_of text old new to room there same collects last sparse count = record {
  text_is = same ∙ room.text_is;
  collects = collects ∙ room.collects;
  sparse = sparse;
  byte = subst (λ b. IfSome b (λ token. token.kind ≢ Eof → token.start < token.end)) (sym last) there.byte;
  ends = let end = ap (λ b. (token_before b).end) last in omega (arith, there.ends, end);
  count = omega (arith, room.count, count);
}

-- what holds of all states holds of one of them
of_one : (P : LexerState → Type 0) (states : List LexerState) (k : ℕ) (d : LexerState) → AllByRecursion P states
    → k < length states → P (slice_index_or states k d)
of_one P [] k d all less = absurd (omega (arith, less))
of_one P (l ∷ ls) zero d all less = all.0
of_one P (l ∷ ls) (suc k) d all less = of_one P ls k d all.1 (omega (arith, less))

room_of : (text : List ℕ) (states : List LexerState) (to : LexerState) → AllByRecursion (HasRoom text) states
    → Contains states to → HasRoom text to
room_of text states to all at = subst (HasRoom text) at.2 (of_one (HasRoom text) states at.0 to all at.1)

-- the lexer is sparse where it goes back to a checkpoint that was made by it
back_there : (text : List ℕ) (old to : LexerState) (c : Checkpoint) → HasRoom text old → HasRoom text to
    → IsCheckpointOf to c → HasRoom text (rewound old c)
back_there text old to c room there is =
    let collects : to.collects ≡ old.collects = there.collects ∙ sym room.collects in
    let sparse : AreSparse old.collects c.last c.tokens =
    subst (λ b. AreSparse b c.last c.tokens) collects
    (subst (λ n. AreSparse to.collects c.last n) (sym is.tokens)
    (subst (λ b. AreSparse to.collects b (length to.tokens)) (sym is.last) there.sparse)) in
    let count = places_rewound old c in
    with_last_of text old (rewound old c) to room there refl refl is.last (sparse_rewound old c sparse)
    (omega (arith, count))

after_call : (text : List ℕ) (earlier : List LexerState) (old new : LexerState)
    → AllByRecursion (HasRoom text) (old ∷ earlier) → Call earlier old new → HasRoom text new
after_call text earlier old new all (reads goal token before r p) =
    behind_token text goal old new r.outcome all.0 r.reads r.after.text r.after.collects r.after.last
    (p.sparse all.0.sparse (with_byte old.last all.0.byte before)) p.count
after_call text earlier old new all (reads_again goal token r p) =
    behind_token text goal old new r.outcome all.0 r.reads r.after.text r.after.collects r.after.last
    (p.sparse all.0.sparse) p.count
after_call text earlier old new all (peeks token before r p) =
    with_last_of text old new old all.0 all.0 r.restored.text r.restored.collects r.restored.last
    (p.sparse all.0.sparse) p.count
after_call text earlier old new all (finds_no_memory r count) =
    with_last_of text old new old all.0 all.0 r.text r.collects r.last (sparse_back old new r all.0.sparse) count
after_call text earlier old new all (goes_back to c at is e) =
    subst (HasRoom text) (sym e) (back_there text old to c all.0 (room_of text (old ∷ earlier) to all at) is)
after_call text earlier old new all (changes_lists h) =
    with_last_of text old new old all.0 all.0 h.text h.collects h.last
    (rw (h.collects, h.last) (let same = h.tokens in omega (arith, all.0.sparse, same)))
    (let tokens = h.tokens in let free = h.free in omega (arith, tokens, free))

all_have_room : (text : List ℕ) (t : SourceType) (states : List LexerState) → AreCalls text t states
    → AllByRecursion (HasRoom text) states
all_have_room text t [] calls = tt
all_have_room text t (l ∷ []) calls = (subst (HasRoom text) (sym calls) (room_at_first text t), tt)
all_have_room text t (new ∷ old ∷ earlier) calls =
    let all = all_have_room text t (old ∷ earlier) calls.1 in (after_call text earlier old new all calls.0, all)

pub a_place_is_free : (text : List ℕ) (t : SourceType) (l : LexerState) (earlier : List LexerState)
    → AreCalls text t (l ∷ earlier) → IsBeforeEnd l → 0 < l.free
a_place_is_free text t l earlier calls before =
    let room = (all_have_room text t (l ∷ earlier) calls).0 in
    omega (
      arith,
      room.count,
      few_tokens l.collects l.last (length l.tokens) (length text) room.sparse room.byte before room.ends,
    )
