-- The steps of a search through a comment.
use Rattle.std.proofs.Common.{◌≡◌, ℕ, ◌-◌, ◌<◌, Bool, true, false, ◌&&◌, ◌||◌, not, ◌==◌, List, [], ◌∷◌, ◌++◌, length}
use Rattle.std.proofs.Common.{drop, refl, sym, ◌∙◌, ap, subst, arith, Some, None, slice_range, length-drop}
use Rattle.std.specs.Prelude.{codes, if◌then◌else◌}
use Rattle.std.specs.Str.{all_scalars, chars, encode_utf8_all}
use lib.Utf8.{scalar}
use Rattle.std.specs.List.{list_any}
use Rattle.std.specs.Option.{option_map}
use Rattle.std.proofs.lemmas.Bool.{and_parts}
use Rattle.std.proofs.lemmas.List.{length-take}
use Rattle.std.proofs.lemmas.Str.{chars-encodes, scalars-chars}
use Rattle.js_text.specs.Characters.{from_first, from_place, is_line_terminator}
use Rattle.js_text.proofs.TextLemmas.{length-from_first}
use Rattle.js_source.specs.Pairs.{before_pair, begins_pair, from_pair}
use Rattle.js_source.specs.Source.{At, rest, BeginsWith, SpellsBetween, StepsPast}
use Rattle.js_source.proofs.Places.{rest_utf8}
use Rattle.js_source.specs.Search.{matches_char}
use Rattle.js_source.proofs.Skips.{from_first-from_first, line_terminator_matches}
use Rattle.js_grammar.specs.Gap.{is_prefix, cut-cons, cut_behind}
use Rattle.js_source.specs.Search.{four_bytes, is_one_of, PassesOthers}
use Rattle.js_spell.specs.Comments.{block_end, line_bytes, HasNoAt, ReadsCut}
use Rattle.js_spell.proofs.SequenceSteps.{behind}

-- a search with the table stops at every line terminator
abbrev pub StopsAtLineEnds : List Bool → Type 0
StopsAtLineEnds table = (c : ℕ) → is_line_terminator c ≡ true → matches_char table c ≡ true

pub line_stops : StopsAtLineEnds (four_bytes line_bytes)
line_stops = line_terminator_matches (four_bytes line_bytes) refl refl refl

-- a search for a character goes on from where a coarser search has stopped
abbrev pub Searched : (ℕ → Bool) → List Bool → At → At → At → Type 0
Searched p table start old mid =
    ((c : ℕ) → p c ≡ true → matches_char table c ≡ true) × (from_first p (rest old) ≡ from_first p (rest start))
    × (rest mid ≡ from_first (matches_char table) (rest old))

pub searched : (p : ℕ → Bool) (table : List Bool) (start old mid : At) → Searched p table start old mid
    → from_first p (rest mid) ≡ from_first p (rest start)
searched p table start old mid h =
    ap (from_first p) h.2 ∙ sym (from_first-from_first p (matches_char table) h.0 (rest old)) ∙ h.1

at_found : (p : ℕ → Bool) (c : ℕ) (cs xs : List ℕ) → xs ≡ c ∷ cs → p c ≡ true → from_first p xs ≡ xs
at_found p c cs xs e f = rw (e, f) refl

-- it has found its character
pub search_found : (p : ℕ → Bool) (table : List Bool) (start old mid new : At) (c : ℕ) → Searched p table start old mid
    → BeginsWith c (rest mid) → p c ≡ true → rest mid ≡ from_first p (rest start)
search_found p table start old mid new c h begins e = found (rest mid) refl begins
  where
    found : (xs : List ℕ) → rest mid ≡ xs → BeginsWith c xs → rest mid ≡ from_first p (rest start)
    found [] same b = absurd b
    found (d ∷ cs) same b =
        sym (at_found p c cs (rest mid) (same ∙ ap (λ x. x ∷ cs) b) e) ∙ searched p table start old mid h

-- it has come to the end
pub search_ended : (p : ℕ → Bool) (table : List Bool) (start old mid : At) → Searched p table start old mid
    → rest mid ≡ [] → rest mid ≡ from_first p (rest start)
search_ended p table start old mid h e = e ∙ sym (ap (from_first p) e) ∙ searched p table start old mid h

-- it goes past another character
pub search_passes : (p : ℕ → Bool) (table : List Bool) (start old mid new : At) (c : ℕ)
    → Searched p table start old mid → BeginsWith c (rest mid) → StepsPast mid new → p c ≡ false
    → from_first p (rest new) ≡ from_first p (rest start)
search_passes p table start old mid new c h begins past e =
    let after = behind c mid new begins past in
    sym (ap (from_first p) after.1 ∙ rw e refl) ∙ searched p table start old mid h

pub search_shorter : (q : ℕ → Bool) (old mid new : At) (c : ℕ) → rest mid ≡ from_first q (rest old)
    → BeginsWith c (rest mid) → StepsPast mid new → length (rest new) < length (rest old)
search_shorter q old mid new c e begins past =
    let after = behind c mid new begins past in
    omega (arith, ap length after.1, ap length e, length-from_first q (rest old))

-- a search that has met none of the bytes, from its start on, has met no `@`
pub no_at : (start old : At) (to : ℕ) → old ≡ start → PassesOthers line_bytes old.text old.place to
    → HasNoAt start.text start.place to
no_at start old to same p =
    subst (λ s. HasNoAt s.text s.place to) same
    (λ k low high at. let both : true ≡ false = sym (ap (is_one_of line_bytes) at) ∙ p.before k low high in cc)

-- the characters that a search passes over end no line
none_of_others : (p q : ℕ → Bool) → ((c : ℕ) → p c ≡ true → q c ≡ true) → (cs : List ℕ) → list_any q cs ≡ false
    → list_any p cs ≡ false
none_of_others p q stops [] h = refl
none_of_others p q stops (c ∷ cs) h = by_tests (p c) (q c) refl refl (none_of_others p q stops cs) h
  where
    by_tests : (x y : Bool) → p c ≡ x → q c ≡ y → (list_any q cs ≡ false → list_any p cs ≡ false)
        → (y || list_any q cs) ≡ false → (x || list_any p cs) ≡ false
    by_tests true true e f more k = absurd (cc)
    by_tests true false e f more k = absurd (let both : true ≡ false = sym (stops c e) ∙ f in cc)
    by_tests false true e f more k = absurd (cc)
    by_tests false false e f more k = more k

and_true : (b : Bool) → (b && true) ≡ b
and_true true = refl
and_true false = refl

-- the end of a block comment is a pair of ASCII bytes
prefix_is_pair : (cs : List ℕ) → is_prefix (codes "*/") cs ≡ begins_pair block_end cs
prefix_is_pair [] = refl
prefix_is_pair (c ∷ []) = refl
prefix_is_pair (c ∷ d ∷ ds) = ap (λ b. (c == 42) && b) (and_true (d == 47))

-- where there is none, nothing ends the comment
pub no_cut : (cs : List ℕ) → from_pair block_end cs ≡ [] → cut_behind (codes "*/") cs ≡ None
no_cut [] e = refl
no_cut (c ∷ cs) e = by_test (begins_pair block_end (c ∷ cs)) (prefix_is_pair (c ∷ cs)) (no_cut cs) e
  where
    by_test : (b : Bool) → is_prefix (codes "*/") (c ∷ cs) ≡ b
        → (from_pair block_end cs ≡ [] → cut_behind (codes "*/") cs ≡ None)
        → (if b then c ∷ cs else from_pair block_end cs) ≡ [] → cut_behind (codes "*/") (c ∷ cs) ≡ None
    by_test true f more k = absurd (cc)
    by_test false f more k = rw f (ap (option_map (cut-cons c)) (more k))

-- the comment ends behind the first pair
pub cut_at_pair : (cs r : List ℕ) → from_pair block_end cs ≡ 42 ∷ 47 ∷ r
    → cut_behind (codes "*/") cs ≡ Some (record { front = before_pair block_end cs ++ codes "*/"; rest = r })
cut_at_pair [] r e = absurd (cc)
cut_at_pair (c ∷ cs) r e = by_test (begins_pair block_end (c ∷ cs)) (prefix_is_pair (c ∷ cs)) (cut_at_pair cs r) e
  where
    by_test : (b : Bool) → is_prefix (codes "*/") (c ∷ cs) ≡ b
        → (from_pair block_end cs ≡ 42 ∷ 47 ∷ r → cut_behind (codes "*/") cs
        ≡ Some (record { front = before_pair block_end cs ++ codes "*/"; rest = r }))
        → (if b then c ∷ cs else from_pair block_end cs) ≡ 42 ∷ 47 ∷ r
        → cut_behind (codes "*/") (c ∷ cs)
        ≡ Some (record { front = (if b then [] else c ∷ before_pair block_end cs) ++ codes "*/"; rest = r })
    by_test true f more k = rw f (ap (λ xs. Some (record { front = codes "*/"; rest = xs })) (ap (drop 2) k))
    by_test false f more k = rw f (ap (option_map (cut-cons c)) (more k))

-- no line ends in the mark
ends_in_front : (cs : List ℕ) → list_any is_line_terminator (cs ++ codes "*/") ≡ list_any is_line_terminator cs
unfolding is_line_terminator
ends_in_front [] = refl
ends_in_front (c ∷ cs) = ap (λ b. is_line_terminator c || b) (ends_in_front cs)

-- The first pair is found, and whether a line has ended before it is known.
pub block_found : (old new : At) (line_has_ended is_plain : Bool)
    → from_pair block_end (rest old) ≡ 42 ∷ 47 ∷ rest new
    → list_any is_line_terminator (before_pair block_end (rest old)) ≡ line_has_ended
    → ReadsCut (cut_behind (codes "*/") (rest old)) new
    (Some (record { line_has_ended = line_has_ended; is_plain = is_plain }))
block_found old new line_has_ended is_plain e ends = (
  record { front = before_pair block_end (rest old) ++ codes "*/"; rest = rest new },
  cut_at_pair (rest old) (rest new) e,
  ends_in_front (before_pair block_end (rest old)) ∙ ends,
  refl,
)

-- a search that met none of the bytes of line terminators has met no line terminator
pub no_line_end : (cs : List ℕ) → list_any (matches_char (four_bytes line_bytes)) cs ≡ false
    → list_any is_line_terminator cs ≡ false
no_line_end = none_of_others is_line_terminator (matches_char (four_bytes line_bytes)) line_stops

-- the comment, and what follows it
cut_whole : (cs r : List ℕ) → from_pair block_end cs ≡ 42 ∷ 47 ∷ r
    → cs ≡ (before_pair block_end cs ++ codes "*/") ++ r
cut_whole [] r e = absurd (cc)
cut_whole (c ∷ cs) r e = by_test (begins_pair block_end (c ∷ cs)) (cut_whole cs r) e
  where
    by_test : (b : Bool)
        → (from_pair block_end cs ≡ 42 ∷ 47 ∷ r → cs ≡ (before_pair block_end cs ++ codes "*/") ++ r)
        → (if b then c ∷ cs else from_pair block_end cs) ≡ 42 ∷ 47 ∷ r
        → c ∷ cs ≡ ((if b then [] else c ∷ before_pair block_end cs) ++ codes "*/") ++ r
    by_test true more k = k
    by_test false more k = ap (λ xs. c ∷ xs) (more k)

scalars_of_front : (xs ys : List ℕ) → all_scalars (xs ++ ys) ≡ true → all_scalars xs ≡ true
scalars_of_front [] ys h = refl
scalars_of_front (x ∷ xs) ys h =
    let both = and_parts (scalar x) (all_scalars (xs ++ ys)) h in
    rw (both.0, scalars_of_front xs ys both.1) refl

-- The characters of the comment, from its text.
pub comment_characters : (old new : At) (text : List ℕ) → new.text ≡ old.text
    → from_pair block_end (rest old) ≡ 42 ∷ 47 ∷ rest new → SpellsBetween old.text old.place new.place text
    → list_any is_line_terminator (chars text) ≡ list_any is_line_terminator (before_pair block_end (rest old))
comment_characters old new text same e spells =
    let front = before_pair block_end (rest old) ++ codes "*/" in
    let whole : rest old ≡ front ++ rest new = cut_whole (rest old) (rest new) e in
    let bytes : text ≡ encode_utf8_all front =
    spells front (whole ∙ ap (λ t. front ++ from_place t new.place) same) in
    let scalars = scalars_of_front front (rest new) (sym (ap all_scalars whole) ∙ scalars-chars _ (rest_utf8 old)) in
    ap (λ t. list_any is_line_terminator (chars t)) bytes
    ∙ ap (list_any is_line_terminator) (chars-encodes front scalars)
    ∙ ends_in_front (before_pair block_end (rest old))

pub short_between : (text : List ℕ) (from to n : ℕ) → length text < n → length (slice_range text from to) < n
short_between text from to n h =
    omega (arith, length-take (to - from) (drop from text), length-drop from text)

-- no line ends where there is no first line end, and else one does
none_ended : (cs : List ℕ) → from_first is_line_terminator cs ≡ [] → false ≡ list_any is_line_terminator cs
none_ended [] e = refl
none_ended (c ∷ cs) e = by_test (is_line_terminator c) (none_ended cs) e
  where
    by_test : (b : Bool) → (from_first is_line_terminator cs ≡ [] → false ≡ list_any is_line_terminator cs)
        → (if b then c ∷ cs else from_first is_line_terminator cs) ≡ []
        → false ≡ (b || list_any is_line_terminator cs)
    by_test true more k = absurd (cc)
    by_test false more k = more k

some_ended : (cs : List ℕ) → (from_first is_line_terminator cs ≡ [] → ⊥) → true ≡ list_any is_line_terminator cs
some_ended [] e = absurd (e refl)
some_ended (c ∷ cs) e = by_test (is_line_terminator c) (some_ended cs) e
  where
    by_test : (b : Bool)
        → ((from_first is_line_terminator cs ≡ [] → ⊥) → true ≡ list_any is_line_terminator cs)
        → ((if b then c ∷ cs else from_first is_line_terminator cs) ≡ [] → ⊥)
        → true ≡ (b || list_any is_line_terminator cs)
    by_test true more k = refl
    by_test false more k = more k

pub ends_line : (cs : List ℕ) (at_end : Bool) → (at_end ≡ true → from_first is_line_terminator cs ≡ [])
    → (at_end ≡ false → from_first is_line_terminator cs ≡ [] → ⊥) → not at_end ≡ list_any is_line_terminator cs
ends_line cs true ended going = none_ended cs (ended refl)
ends_line cs false ended going = some_ended cs (going refl)
