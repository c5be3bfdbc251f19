-- Marks, where rows are added and marks are opened and closed.
use Rattle.std.proofs.Common.{◌≡◌, ℕ, zero, suc, ◌≤◌, Bool, List, [], ◌∷◌, length, take, refl, sym, ◌∙◌, ap}
use Rattle.std.proofs.Common.{subst, arith, length-append, Option, Some, None}
use Rattle.std.specs.List.{AllByRecursion}
use Rattle.std.specs.Prelude.{IfSome}
use Rattle.std.proofs.lemmas.List.{take-append-le, take-take, length-take-le, take_all}
use Rattle.js_text.specs.Lists.{with_last}
use Rattle.js_text.specs.declared.source_type.SourceType.{SourceType}
use Rattle.js_grammar.specs.Outcome.{Outcome, cut_to, lengths_of, AreWithin}
use Rattle.js_kind.specs.TokenParts.{TokenParts}
use Rattle.js_lexer.specs.Lexer.{LexerState, GoesOnFrom, checkpoint_of, put_back}
use Rattle.js_lexer.proofs.FindingLaws.{cut_to-all, cut_to-cut_to, cut_to-joined-le}
use Rattle.js_lexer.proofs.GoesOn.{within_all}
use Rattle.js_lexer.proofs.LexerSteps.{put_back_last}
use Rattle.js_session.specs.Live.{Live, with_outcome, with_re_lexed}
use Rattle.js_session.specs.Marks.{front, fronts, lexer_behind, lexer_at, IsAlike, IsMark, AreMarks}
use Rattle.js_session.specs.declared.mark.SessionMark.{SessionMark}
use Rattle.js_session.proofs.LexerLemmas.{goes_on-trans, can_rewind-on, begins_alike-refl}
use Rattle.js_session.proofs.LiveLemmas.{IsReplaced, goes_on-behind, goes_on-behind_re_lexed, last_none, length-with_last}
use Rattle.js_session.proofs.LiveLemmas.{same_live}

length-put_back : (ts : List TokenParts) (last : Option TokenParts) → length (put_back ts last) ≡ length ts
length-put_back ts None = refl
length-put_back ts (Some t) = length-with_last ts t

-- a front of some tokens with another last one is some tokens
some_front : (k : ℕ) (b : TokenParts) (bs : List TokenParts) (y : TokenParts)
    → (x : TokenParts) × (xs : List TokenParts) × (take (suc k) (with_last (b ∷ bs) y) ≡ x ∷ xs)
some_front k b [] y = (y, take k [], refl)
some_front k b (c ∷ cs) y = (b, take k (with_last (c ∷ cs) y), refl)

with_last-behind : (a v x : TokenParts) (r xs : List TokenParts) → r ≡ x ∷ xs → with_last (a ∷ r) v ≡ a ∷ with_last r v
with_last-behind a v x r xs e = rw e refl

-- the last of a front, put in twice
with_last-take : (k : ℕ) (ts : List TokenParts) (y v : TokenParts)
    → with_last (take k (with_last ts y)) v ≡ with_last (take k ts) v
with_last-take zero ts y v = refl
with_last-take (suc k) [] y v = refl
with_last-take (suc zero) (a ∷ []) y v = refl
with_last-take (suc (suc k)) (a ∷ []) y v = refl
with_last-take (suc zero) (a ∷ b ∷ bs) y v = refl
with_last-take (suc (suc k)) (a ∷ b ∷ bs) y v =
    let some = some_front k b bs y in
    with_last-behind a v some.0 (take (suc k) (with_last (b ∷ bs) y)) some.1 some.2
    ∙ ap (λ r. a ∷ r) (with_last-take (suc k) (b ∷ bs) y v)

put_back-take : (k n : ℕ) (ts : List TokenParts) (y z : Option TokenParts) → k ≤ n → (z ≡ None → k ≡ 0)
    → put_back (take k (put_back (take n ts) y)) z ≡ put_back (take k ts) z
put_back-take k n ts None z le none = ap (λ l. put_back l z) (take-take k n ts le)
put_back-take k n ts (Some y) (Some v) le none =
    with_last-take k (take n ts) y v ∙ ap (λ l. with_last l v) (take-take k n ts le)
put_back-take k n ts (Some y) None le none = rw (none refl) refl

length-front : (now : Live) (m : SessionMark) → m.tokens ≤ length now.tokens → length (front now m).tokens ≡ m.tokens
length-front now m h =
    length-put_back (take m.tokens now.tokens) m.checkpoint.last ∙ length-take-le m.tokens now.tokens h

-- a mark of which no token was the last is of none
pub none_at : (text : List ℕ) (t : SourceType) (c : Bool) (now : Live) (m : SessionMark) → IsMark text t c now m
    → m.checkpoint.last ≡ None → m.tokens ≡ 0
none_at text t c now m is none =
    let nothing = last_none (front now m).tokens (sym (ap (λ x. x.last) is.checkpoint) ∙ none) in
    sym (length-front now m is.tokens) ∙ ap length nothing

-- what was found at a mark is no more than what is found now
within : (text : List ℕ) (t : SourceType) (c : Bool) (now : Live) (m : SessionMark) → IsMark text t c now m
    → AreWithin m.checkpoint.lengths now.findings
within text t c now m is =
    within_all (lexer_at text t c m (front now m)) (lexer_behind text t c now) m.checkpoint is.checkpoint is.can_rewind

-- the front of a front
front_front : (text : List ℕ) (t : SourceType) (c : Bool) (now : Live) (m x : SessionMark) → IsMark text t c now m
    → IsMark text t c (front now m) x → front (front now m) x ≡ front now x
front_front text t c now m x is other =
    let le : x.tokens ≤ m.tokens = omega (arith, other.tokens, length-front now m is.tokens) in
    same_live (front (front now m) x) (front now x)
    (put_back-take x.tokens m.tokens now.tokens m.checkpoint.last x.checkpoint.last le
    (none_at text t c (front now m) x other))
    (cut_to-cut_to x.checkpoint.lengths m.checkpoint.lengths now.findings (within text t c now m is)
    (within text t c (front now m) x other))

-- the front of what is live with one more outcome
front-outcome : (text : List ℕ) (t : SourceType) (c : Bool) (now : Live) (o : Outcome) (m : SessionMark)
    → IsMark text t c now m → front (with_outcome now o) m ≡ front now m
front-outcome text t c now o m is =
    same_live (front (with_outcome now o) m) (front now m)
    (ap (λ l. put_back l m.checkpoint.last) (take-append-le m.tokens now.tokens (o.token ∷ []) is.tokens))
    (cut_to-joined-le m.checkpoint.lengths now.findings o.findings (within text t c now m is))

-- and of what is live with its last token read again
front-re_lexed : (text : List ℕ) (t : SourceType) (c : Bool) (now : Live) (o : Outcome) (m : SessionMark)
    → IsMark text t c now m → front (with_re_lexed now o) m ≡ front now m
front-re_lexed text t c now o m is =
    let whole : take (length now.tokens) now.tokens ≡ now.tokens =
    take_all (length now.tokens) now.tokens (omega arith) in
    same_live (front (with_re_lexed now o) m) (front now m)
    (ap (λ l. put_back (take m.tokens (with_last l o.token)) m.checkpoint.last) (sym whole)
    ∙ put_back-take m.tokens (length now.tokens) now.tokens (Some o.token) m.checkpoint.last is.tokens
    (none_at text t c now m is))
    (cut_to-joined-le m.checkpoint.lengths now.findings o.findings (within text t c now m is))

-- a mark stays one where the lexer has gone on and its front is the same
mark-on : (text : List ℕ) (t : SourceType) (c : Bool) (a b : Live) (m : SessionMark) → IsMark text t c a m
    → GoesOnFrom (lexer_behind text t c a) (lexer_behind text t c b)
    → front b m ≡ front a m → m.tokens ≤ length b.tokens → IsMark text t c b m
mark-on text t c a b m is on same within = record {
  tokens = within;
  checkpoint = is.checkpoint ∙ ap (λ l. checkpoint_of (lexer_at text t c m l)) (sym same);
  goes_on =
      subst (λ l. GoesOnFrom (lexer_behind text t c l) (lexer_behind text t c b)) (sym same)
      (goes_on-trans _ _ _ is.goes_on on);
  can_rewind = can_rewind-on _ _ m.checkpoint is.can_rewind on;
}

-- marks stay marks of what was live, where the lexer has gone on and the front of each is the same
record StayMarks (text : List ℕ) (t : SourceType) (c : Bool) (a b : Live) : Type 0 where
  pub goes_on : GoesOnFrom (lexer_behind text t c a) (lexer_behind text t c b)
  pub fronts_stay : (m : SessionMark) → IsMark text t c a m → front b m ≡ front a m
  pub longer : length a.tokens ≤ length b.tokens

marks-on : (text : List ℕ) (t : SourceType) (c : Bool) (a b : Live) (ms : List SessionMark) → StayMarks text t c a b
    → AreMarks text t c a ms → AreMarks text t c b ms
marks-on text t c a b [] s h = tt
marks-on text t c a b (m ∷ ms) s h =
    let same = s.fronts_stay m h.0 in (
      mark-on text t c a b m h.0 s.goes_on same (omega (arith, h.0.tokens, s.longer)),
      subst (λ l. AreMarks text t c l ms) (sym same) h.1,
    )

fronts-on : (text : List ℕ) (t : SourceType) (c : Bool) (a b : Live) (ms : List SessionMark) → StayMarks text t c a b
    → AreMarks text t c a ms → fronts b ms ≡ fronts a ms
fronts-on text t c a b [] s h = refl
fronts-on text t c a b (m ∷ ms) s h = ap (λ l. l ∷ fronts l ms) (s.fronts_stay m h.0)

stay-outcome : (text : List ℕ) (t : SourceType) (c : Bool) (now : Live) (o : Outcome)
    → StayMarks text t c now (with_outcome now o)
stay-outcome text t c now o = record {
  goes_on = goes_on-behind text t c now o;
  fronts_stay = front-outcome text t c now o;
  longer = omega (arith, length-append now.tokens (o.token ∷ []));
}

stay-re_lexed : (text : List ℕ) (t : SourceType) (c : Bool) (now : Live) (o : Outcome) → IsReplaced now o
    → StayMarks text t c now (with_re_lexed now o)
stay-re_lexed text t c now o r = record {
  goes_on = goes_on-behind_re_lexed text t c now o r;
  fronts_stay = front-re_lexed text t c now o;
  longer = omega (arith, length-with_last now.tokens o.token);
}

pub marks-outcome : (text : List ℕ) (t : SourceType) (c : Bool) (now : Live) (o : Outcome) (ms : List SessionMark)
    → AreMarks text t c now ms → AreMarks text t c (with_outcome now o) ms
marks-outcome text t c now o ms h = marks-on text t c now (with_outcome now o) ms (stay-outcome text t c now o) h

pub fronts-outcome : (text : List ℕ) (t : SourceType) (c : Bool) (now : Live) (o : Outcome) (ms : List SessionMark)
    → AreMarks text t c now ms → fronts (with_outcome now o) ms ≡ fronts now ms
fronts-outcome text t c now o ms h = fronts-on text t c now (with_outcome now o) ms (stay-outcome text t c now o) h

pub marks-re_lexed : (text : List ℕ) (t : SourceType) (c : Bool) (now : Live) (o : Outcome) (ms : List SessionMark)
    → IsReplaced now o → AreMarks text t c now ms → AreMarks text t c (with_re_lexed now o) ms
marks-re_lexed text t c now o ms r h =
    marks-on text t c now (with_re_lexed now o) ms (stay-re_lexed text t c now o r) h

pub fronts-re_lexed : (text : List ℕ) (t : SourceType) (c : Bool) (now : Live) (o : Outcome) (ms : List SessionMark)
    → IsReplaced now o → AreMarks text t c now ms → fronts (with_re_lexed now o) ms ≡ fronts now ms
fronts-re_lexed text t c now o ms r h =
    fronts-on text t c now (with_re_lexed now o) ms (stay-re_lexed text t c now o r) h

-- The marks before a mark are marks of what is live now.
pub marks-commit : (text : List ℕ) (t : SourceType) (c : Bool) (now : Live) (m : SessionMark) (ms : List SessionMark)
    → AreMarks text t c now (m ∷ ms)
    → AreMarks text t c now ms × (fronts now ms ≡ fronts (front now m) ms)
marks-commit text t c now m [] h = (tt, refl)
marks-commit text t c now m (x ∷ xs) h =
    let same = front_front text t c now m x h.0 h.1.0 in
    let within : x.tokens ≤ length now.tokens =
    omega (arith, h.1.0.tokens, length-front now m h.0.tokens, h.0.tokens) in (
      (
        mark-on text t c (front now m) now x h.1.0 h.0.goes_on (sym same) within,
        subst (λ l. AreMarks text t c l xs) same h.1.1,
      ),
      ap (λ l. l ∷ fronts l xs) (sym same),
    )

pub length-fronts : (now : Live) (ms : List SessionMark) → length (fronts now ms) ≡ length ms
length-fronts now [] = refl
length-fronts now (m ∷ ms) = ap (λ n. suc n) (length-fronts (front now m) ms)

-- all that is live, with its last token in its place
pub front_all : (now : Live) (m : SessionMark) (lexer : LexerState) (text : List ℕ) (t : SourceType) (c : Bool)
    → m.tokens ≡ length now.tokens → m.checkpoint ≡ checkpoint_of lexer
    → IsAlike (lexer_behind text t c now) lexer → front now m ≡ now
front_all now m lexer text t c tokens point behind =
    let last = ap (λ x. x.last) point ∙ behind.last in
    let lengths = ap (λ x. x.lengths) point ∙ ap lengths_of behind.findings in
    same_live (front now m) now
    (ap (λ n. put_back (take n now.tokens) m.checkpoint.last) tokens
    ∙ ap (put_back (take (length now.tokens) now.tokens)) last
    ∙ put_back_last now.tokens now.tokens (begins_alike-refl now.tokens))
    (ap (λ l. cut_to l now.findings) lengths ∙ cut_to-all now.findings)

-- P holds of the tokens of a front
all-take : {X : Type 0} (P : X → Type 0) (k : ℕ) (xs : List X) → AllByRecursion P xs → AllByRecursion P (take k xs)
all-take P zero xs h = tt
all-take P (suc k) [] h = tt
all-take P (suc k) (x ∷ xs) h = (h.0, all-take P k xs h.1)

pub all-with_last : {X : Type 0} (P : X → Type 0) (xs : List X) (y : X) → AllByRecursion P xs → P y
    → AllByRecursion P (with_last xs y)
all-with_last P [] y h p = tt
all-with_last P (x ∷ []) y h p = (p, tt)
all-with_last P (x ∷ z ∷ zs) y h p = (h.0, all-with_last P (z ∷ zs) y h.1 p)

pub all-put_back : (P : TokenParts → Type 0) (k : ℕ) (ts : List TokenParts) (last : Option TokenParts)
    → AllByRecursion P ts → IfSome last P → AllByRecursion P (put_back (take k ts) last)
all-put_back P k ts None h p = all-take P k ts h
all-put_back P k ts (Some y) h p = all-with_last P (take k ts) y (all-take P k ts h) p
