-- What calls make of the places of a lexer's tokens.
use Rattle.std.proofs.Common.{◌≡◌, ℕ, ◌+◌, ◌-◌, ◌<◌, ◌≤◌, Bool, true, false, not, ◌&&◌, List, [], ◌∷◌}
use Rattle.std.proofs.Common.{length, take, zero, suc, refl, sym, ◌∙◌, ap, subst, arith, Option, None, Some}
use Rattle.std.specs.Prelude.{IfSome, if◌then◌else◌}
use Rattle.std.proofs.lemmas.List.{length-append}
use Rattle.js_places.specs.Reserved.{Reserved}
use Rattle.js_text.specs.Lists.{with_last}
use Rattle.js_text.specs.declared.source_type.SourceType.{SourceType}
use Rattle.js_grammar.specs.GapItems.{token_before}
use Rattle.js_grammar.specs.Goals.{GoalReads}
use Rattle.js_grammar.specs.Outcome.{Outcome}
use Rattle.js_grammar.specs.Reads.{is_onward}
use Rattle.js_grammar.specs.declared.goal.Goal.{Goal}
use Rattle.js_grammar.proofs.TokenStarts.{starts_again}
use Rattle.js_kind.specs.TokenParts.{TokenParts}
use Rattle.js_lexer.specs.Lexer.{IsRestored, LexerState, LexesAgain, ReadsToken, collected, is_hashbang}
use Rattle.js_lexer.specs.Lexer.{Checkpoint, put_back, rewound, with_token, with_token_again}
use Rattle.js_lexer.specs.Places.{AreSparse, HasByte, IsSparse, IsSparseCheckpoint, ReadsInPlaces, StaysInPlaces}
use Rattle.js_lexer.specs.Places.{own_count, places}
use Rattle.js_lexer.proofs.ReadAgain.{again_is_collected}

-- the last token ends at the place of the lexer, or before it
abbrev pub IsBehind : LexerState → Type 0
IsBehind l = (token_before l.last).end ≤ l.place

pub length-with_last : {T : Type 0} (xs : List T) (y : T) → length (with_last xs y) ≡ length xs
length-with_last [] y = refl
length-with_last (x ∷ []) y = refl
length-with_last (x ∷ z ∷ zs) y = ap suc (length-with_last (z ∷ zs) y)

pub at_most_one : (collects : Bool) (token : TokenParts) → length (collected collects token) ≤ 1
at_most_one collects token = by_flag (collects && not (is_hashbang token.kind))
  where
    by_flag : (b : Bool) → length (if b then token ∷ [] else []) ≤ 1
    by_flag true = omega arith
    by_flag false = omega arith

-- few tokens were collected before a token that starts no earlier than the last one ends
room_for_more : (collects : Bool) (last : Option TokenParts) (tokens start : ℕ) → AreSparse collects last tokens
    → IfSome last (λ token. token.start < token.end) → (token_before last).end ≤ start → tokens ≤ start
room_for_more collects None tokens start sparse byte behind = omega (arith, sparse)
room_for_more collects (Some token) tokens start sparse byte behind =
    omega (arith, sparse, byte, behind, at_most_one collects token)

-- a reading of a sparse lexer
pub sparse_read : (goal : Goal) (token : TokenParts) (old new : LexerState) → is_onward goal ≡ true → IsBehind old
    → ReadsToken goal old token new → IsSparse old → HasByte old → IsSparse new
sparse_read goal token old new onward behind r sparse byte =
    let o = r.outcome in
    let room =
    room_for_more old.collects old.last (length old.tokens) o.token.start sparse byte
    (omega (arith, behind, r.reads.onward onward)) in
    let long : length new.tokens ≡ length old.tokens + length (collected old.collects o.token) =
    ap length r.after.tokens ∙ length-append old.tokens (collected old.collects o.token) in
    rw (r.after.last, r.after.collects) (omega (arith, long, room))

-- a token that is collected adds no fewer to the collected ones than any other
own_again : (collects : Bool) (before token : TokenParts) → is_hashbang token.kind ≡ false
    → own_count collects (Some before) ≤ own_count collects (Some token)
own_again false before token none = omega arith
own_again true before token none =
    let one : length (collected true token) ≡ 1 = rw none refl in omega (arith, one, at_most_one true before)

sparse_at : (text : List ℕ) (t : SourceType) (goal : Goal) (last : Option TokenParts) (place : ℕ) (o : Outcome)
    (collects : Bool) (tokens : ℕ) → is_onward goal ≡ false → GoalReads text t goal last place o
    → AreSparse collects last tokens → AreSparse collects (Some o.token) tokens
sparse_at text t goal None place o collects tokens again reads sparse = omega (arith, sparse)
sparse_at text t goal (Some before) place o collects tokens again reads sparse =
    omega (
      arith,
      sparse,
      starts_again text t goal before place o again reads,
      own_again collects before o.token (again_is_collected text t goal (Some before) place o again reads),
    )

-- and one whose token is read again
pub sparse_again : (goal : Goal) (token : TokenParts) (old new : LexerState) → is_onward goal ≡ false
    → LexesAgain goal old token new → IsSparse old → IsSparse new
sparse_again goal token old new again r sparse =
    let o = r.outcome in
    let long : length new.tokens ≡ length old.tokens =
    ap length r.after.tokens ∙ as_long old.collects old.tokens o.token in
    subst (λ n. AreSparse new.collects new.last n) (sym long)
    (subst (λ l. AreSparse new.collects l (length old.tokens)) (sym r.after.last)
    (subst (λ b. AreSparse b (Some o.token) (length old.tokens)) (sym r.after.collects)
    (sparse_at old.text old.source_type goal old.last old.place o old.collects (length old.tokens) again r.reads.reads
    sparse)))
  where
    as_long : (collects : Bool) (tokens : List TokenParts) (token : TokenParts)
        → length (if collects then with_last tokens token else tokens) ≡ length tokens
    as_long true tokens token = length-with_last tokens token
    as_long false tokens token = refl

-- a lexer that went back is as sparse as it was
pub sparse_back : (old new : LexerState) → IsRestored old new → IsSparse old → IsSparse new
sparse_back old new r sparse = rw (r.tokens, r.last, r.collects) sparse

-- a token that is collected takes a free place, if there is one
pub count_collected : (collects : Bool) (token : TokenParts) (l now : Reserved TokenParts)
    → now ≡ with_token collects token l → length l.items + l.free ≤ length now.items + now.free
count_collected collects token l now e =
    let long = length-append l.items (collected collects token) in rw e (omega (arith, long))

-- and one that stands in the place of the last one none
count_again : (collects : Bool) (token : TokenParts) (l : Reserved TokenParts)
    → length l.items + l.free
    ≤ length (with_token_again collects token l).items + (with_token_again collects token l).free
count_again true token l = let long = length-with_last l.items token in omega (arith, long)
count_again false token l = omega arith

-- the places of a lexer that collected a token that it read
pub reads_in_places : (goal : Goal) (token : TokenParts) (old new : LexerState) → is_onward goal ≡ true → IsBehind old
    → ReadsToken goal old token new → places old ≤ places new → ReadsInPlaces old new
reads_in_places goal token old new onward behind r count = record {
  count = count;
  sparse = sparse_read goal token old new onward behind r;
}

-- and of one whose token was read again
pub stays_in_places : (goal : Goal) (token taken : TokenParts) (collects : Bool) (l now : Reserved TokenParts)
    (old new : LexerState) → is_onward goal ≡ false → LexesAgain goal old token new
    → now ≡ with_token_again collects taken l → places old ≡ length l.items + l.free
    → places new ≡ length now.items + now.free → StaysInPlaces old new
stays_in_places goal token taken collects l now old new again r e before after = record {
  count =
      let counted = count_again collects taken l in
      let same = ap (λ (m : Reserved TokenParts). length m.items + m.free) e in omega (arith, counted, same, before, after);
  sparse = sparse_again goal token old new again r;
}

length-put_back : (tokens : List TokenParts) (token : Option TokenParts) → length (put_back tokens token) ≡ length tokens
length-put_back tokens None = refl
length-put_back tokens (Some token) = length-with_last tokens token

at_most : (n : ℕ) (tokens : List TokenParts) → length (take n tokens) ≤ n
at_most zero tokens = omega arith
at_most (suc n) [] = omega arith
at_most (suc n) (t ∷ ts) = let less = at_most n ts in omega (arith, less)

-- a rewind to a sparse checkpoint
pub sparse_rewound : (l : LexerState) (c : Checkpoint) → IsSparseCheckpoint l.collects c → IsSparse (rewound l c)
sparse_rewound l c sparse =
    let long = length-put_back (take c.tokens l.tokens) c.last_collected in
    omega (arith, sparse, long, at_most c.tokens l.tokens)

taken_and_rest : (n : ℕ) (tokens : List TokenParts) → length (take n tokens) + (length tokens - n) ≡ length tokens
taken_and_rest zero tokens = omega arith
taken_and_rest (suc n) [] = omega arith
taken_and_rest (suc n) (t ∷ ts) = let rest = taken_and_rest n ts in omega (arith, rest)

-- a rewind frees the places of the tokens that were collected since
pub places_rewound : (l : LexerState) (c : Checkpoint) → places (rewound l c) ≡ places l
places_rewound l c =
    let long = length-put_back (take c.tokens l.tokens) c.last_collected in
    omega (arith, long, taken_and_rest c.tokens l.tokens)
