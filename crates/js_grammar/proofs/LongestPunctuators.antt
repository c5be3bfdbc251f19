-- Each punctuator is the longest where what follows goes on with no other.
use Rattle.std.proofs.Common.{◌≡◌, ℕ, ◌≤◌, Bool, true, false, not, ◌&&◌, ◌||◌, ◌==◌, nat_le, nat_lt, List}
use Rattle.std.proofs.Common.{[], ◌∷◌, ◌++◌, length, drop, refl, sym, ◌∙◌, subst, inl, inr, Option}
use Rattle.std.proofs.Common.{Some, None, arith}
use Rattle.std.specs.Prelude.{if◌then◌else◌, ◌⊎◌}
use Rattle.std.specs.Char.{is_ascii_digit}
use Rattle.std.specs.List.{list_all}
use Rattle.std.specs.Str.{bytes_eq}
use Rattle.std.proofs.lemmas.Bool.{eq-eqb, eqb-true, le-leb, leb-true, ne_eqb}
use Rattle.std.proofs.lemmas.List.Folds.{list_all-append}
use Rattle.js_text.specs.Characters.{begins}
use Rattle.js_text.specs.declared.source_type.SourceType.{SourceType}
use Rattle.js_grammar.specs.Gap.{is_prefix}
use Rattle.js_grammar.specs.Punctuators.{Punctuator, punctuators, IsIn, is_spelled, LongestPunctuator, NoPunctuator}
use Rattle.js_grammar.specs.Punctuators.{unrestricted, before_no_digit, left_angle, is_optional_dot}
use Rattle.js_grammar.specs.Punctuators.{is_excluded, next_in, going_on, is_not_next}
use Rattle.js_grammar.proofs.Tests.{and_true}
use Rattle.js_kind.specs.declared.kind.Kind.TheVariants.{Dot, Question}

-- the punctuator of the table with this text
abbrev entry : List ℕ → List Punctuator → Option Punctuator
entry text [] = None
entry text (p ∷ ps) = if bytes_eq p.text text then Some p else entry text ps

in_list : (text : List ℕ) (p : Punctuator) (ps : List Punctuator) → entry text ps ≡ Some p → IsIn p ps
in_list text p [] e = absurd (cc)
in_list text p (q ∷ ps) e = at (bytes_eq q.text text) e (λ h. in_list text p ps h)
  where
    at : (b : Bool) → (if b then Some q else entry text ps) ≡ Some p → (entry text ps ≡ Some p → IsIn p ps)
        → IsIn p (q ∷ ps)
    at true e later = inl (let same : q ≡ p = cc in sym same)
    at false e later = inr (later e)

pub listed : {p : Punctuator} → entry p.text punctuators ≡ Some p → IsIn p punctuators
listed {p} e = in_list p.text p punctuators e

-- A longer mark begins with another and goes on with the next character of the text behind that.
record GoesOn (mark longer cs : List ℕ) : Type 0 where
  c : ℕ
  next : next_in mark longer ≡ c ∷ []
  here : begins (λ x. x == c) cs ≡ true

-- A mark that a text begins with is no longer than another one there, or it goes on behind that.
goes_on : (mark longer cs : List ℕ) → is_prefix longer (mark ++ cs) ≡ true
    → (length longer ≤ length mark) ⊎ GoesOn mark longer cs
goes_on [] [] cs e = inl (omega arith)
goes_on [] (x ∷ xs) [] e = absurd (cc)
goes_on [] (x ∷ xs) (c ∷ cs) e =
    inr (record { c = x; next = refl; here = (and_true (c == x) (is_prefix xs cs) e).0 })
goes_on (m ∷ ms) [] cs e = inl (omega arith)
goes_on (m ∷ ms) (x ∷ xs) cs e =
    let both = and_true (m == x) (is_prefix xs (ms ++ cs)) e in
    let same : (x == m) ≡ true = eq-eqb x m (sym (eqb-true m x both.0)) in
    elim (goes_on ms xs cs both.1) [
      | inl short ↦ inl (omega (arith, short))
      | inr longer ↦ inr (record { c = longer.c; next = rw same longer.next; here = longer.here })
    ]

-- a test of a punctuator that is spelled there
spelled_passes : (a x b left : Bool) → (a ≡ true → b ≡ true) → left ≡ true → ((not (a && not x) || b) && left) ≡ true
spelled_passes true true b left passes rest = rest
spelled_passes true false b left passes rest = rw (passes refl, rest) refl
spelled_passes false x b left passes rest = rest

-- Where the text behind a mark goes on with none of these punctuators, none that is spelled is longer.
none_longer : (t : SourceType) (line_has_ended : Bool) (mark cs : List ℕ) (ps : List Punctuator)
    → list_all (is_not_next cs) (going_on mark ps) ≡ true
    → list_all (λ q. not (is_spelled t line_has_ended (mark ++ cs) q) || nat_le (length q.text) (length mark)) ps ≡ true
none_longer t line_has_ended mark cs [] e = refl
none_longer t line_has_ended mark cs (p ∷ ps) e =
    let both = and_true (list_all (is_not_next cs) (next_in mark p.text)) (list_all (is_not_next cs) (going_on mark ps))
    (sym (list_all-append (is_not_next cs) (next_in mark p.text) (going_on mark ps)) ∙ e) in
    spelled_passes (is_prefix p.text (mark ++ cs)) _ (nat_le (length p.text) (length mark)) _
    (λ here. elim (goes_on mark p.text cs here) [
      | inl short ↦ le-leb (length p.text) (length mark) short
      | inr longer ↦ absurd (none longer (subst (λ xs. list_all (is_not_next cs) xs ≡ true) longer.next both.0))
    ])
    (none_longer t line_has_ended mark cs ps both.1)
  where
    none : (longer : GoesOn mark p.text cs) → list_all (is_not_next cs) (longer.c ∷ []) ≡ true → ⊥
    none longer e = let no : (not true && true) ≡ true = rw longer.here at e in absurd (cc)

-- A punctuator of the table is the longest, where the text behind it goes on with no other and may follow it.
pub longest : (t : SourceType) (line_has_ended : Bool) (p : Punctuator) (cs : List ℕ) → IsIn p punctuators
    → is_excluded p t line_has_ended cs ≡ false → list_all (is_not_next cs) (going_on p.text punctuators) ≡ true
    → LongestPunctuator t line_has_ended (p.text ++ cs) cs p.kind
longest t line_has_ended p cs i allowed none = record {
  it = p;
  in_table = i;
  here = refl;
  allowed = allowed;
  kind = refl;
  longest = none_longer t line_has_ended p.text cs punctuators none;
}

-- no entry that is spelled at the text is longer than n
abbrev none_above : SourceType → Bool → ℕ → List ℕ → Type 0
none_above t line_has_ended n text =
    list_all (λ q. not (is_spelled t line_has_ended text q) || nat_le (length q.text) n) punctuators ≡ true

one_dot : (a : Bool) → (((not ((a && false) && true)) || false) && true) ≡ true
one_dot true = refl
one_dot false = refl

two_dots : (a b : Bool) → (a && (b && true)) ≡ false → (((not ((a && (b && true)) && true)) || false) && true) ≡ true
two_dots a b e = rw e refl

no_dot : (a d : Bool) → (a && not d) ≡ false → ((not ((a && true) && not d) || false) && true) ≡ true
no_dot true true e = refl
no_dot true false e = absurd (cc)
no_dot false d e = refl

-- A dot is the longest before what is neither two dots nor a digit,
pub dot : (t : SourceType) (line_has_ended : Bool) (cs : List ℕ) → is_prefix (46 ∷ 46 ∷ []) cs ≡ false
    → begins is_ascii_digit cs ≡ false → LongestPunctuator t line_has_ended (46 ∷ cs) cs Dot
dot t line_has_ended cs two digit = record {
  it = before_no_digit Dot;
  in_table = listed refl;
  here = refl;
  allowed = digit;
  kind = refl;
  longest = above cs two digit;
}
  where
    above : (xs : List ℕ) → is_prefix (46 ∷ 46 ∷ []) xs ≡ false → begins is_ascii_digit xs ≡ false
        → none_above t line_has_ended 1 (46 ∷ xs)
    above [] two digit = refl
    above (x ∷ []) two digit = rw digit (one_dot (x == 46))
    above (x ∷ y ∷ xs) two digit = rw digit (two_dots (x == 46) (y == 46) two)

-- and a question mark before what is neither another one nor a dot that no digit follows.
pub question : (t : SourceType) (line_has_ended : Bool) (cs : List ℕ) → begins (λ c. c == 63) cs ≡ false
    → is_optional_dot cs ≡ false → LongestPunctuator t line_has_ended (63 ∷ cs) cs Question
question t line_has_ended cs one optional = record {
  it = unrestricted Question;
  in_table = listed refl;
  here = refl;
  allowed = refl;
  kind = refl;
  longest = above cs one optional;
}
  where
    above : (xs : List ℕ) → begins (λ c. c == 63) xs ≡ false → is_optional_dot xs ≡ false
        → none_above t line_has_ended 1 (63 ∷ xs)
    above [] one optional = refl
    above (x ∷ xs) one optional = rw one (no_dot (x == 46) (begins is_ascii_digit xs) optional)

-- Where a reported comment stands, no punctuator is spelled: `<` may not stand before `!--`.
pub none_reported : (t : SourceType) (line_has_ended : Bool) (cs : List ℕ)
    → is_excluded left_angle t line_has_ended (33 ∷ 45 ∷ 45 ∷ cs) ≡ true
    → NoPunctuator t line_has_ended (60 ∷ 33 ∷ 45 ∷ 45 ∷ cs)
none_reported t line_has_ended cs e = rw e refl

digit_is_no_dot : (x : ℕ) → is_ascii_digit x ≡ true → (x == 46) ≡ false
digit_is_no_dot x e = let low : 48 ≤ x = leb-true 48 x (and_true (nat_le 48 x) (nat_le x 57) e).0 in
    ne_eqb x 46 (λ same. absurd (omega arith))

-- Before a digit a dot is no punctuator.
pub none_dot : (t : SourceType) (line_has_ended : Bool) (cs : List ℕ) → begins is_ascii_digit cs ≡ true
    → NoPunctuator t line_has_ended (46 ∷ cs)
none_dot t line_has_ended [] e = absurd (cc)
none_dot t line_has_ended (x ∷ cs) e = elim_digit x cs (digit_is_no_dot x e) e
  where
    elim_digit : (x : ℕ) (cs : List ℕ) → (x == 46) ≡ false → is_ascii_digit x ≡ true
        → NoPunctuator t line_has_ended (46 ∷ x ∷ cs)
    elim_digit x cs other e = rw (other, e) refl

-- Before a star a slash is no punctuator.
pub none_slash : (t : SourceType) (line_has_ended : Bool) (cs : List ℕ) → NoPunctuator t line_has_ended (47 ∷ 42 ∷ cs)
none_slash t line_has_ended cs = refl

punctuators_have_text : list_all (λ p. nat_lt 0 (length p.text)) punctuators ≡ true
punctuators_have_text = refl

-- a text that begins with another character than the punctuator does
not_spelled : (c : ℕ) (cs xs : List ℕ) (b : Bool) → not (begins (λ x. c == x) xs) ≡ true → nat_lt 0 (length xs) ≡ true
    → (is_prefix xs (c ∷ cs) && not b) ≡ false
not_spelled c cs [] b e f = absurd (cc)
not_spelled c cs (x ∷ xs) b e f = let no : (c == x) ≡ false = not_true (c == x) e in rw no refl
  where
    not_true : (a : Bool) → not a ≡ true → a ≡ false
    not_true true h = absurd (cc)
    not_true false h = refl

-- No punctuator begins with another character.
pub none : (t : SourceType) (line_has_ended : Bool) (c : ℕ) (cs : List ℕ)
    → list_all (λ p. not (begins (λ x. c == x) p.text)) punctuators ≡ true → NoPunctuator t line_has_ended (c ∷ cs)
none t line_has_ended c cs e = none_of punctuators e punctuators_have_text
  where
    none_of : (ps : List Punctuator) → list_all (λ p. not (begins (λ x. c == x) p.text)) ps ≡ true
        → list_all (λ p. nat_lt 0 (length p.text)) ps ≡ true
        → list_all (λ q. not (is_spelled t line_has_ended (c ∷ cs) q)) ps ≡ true
    none_of [] e f = refl
    none_of (p ∷ ps) e f =
        let both = and_true (not (begins (λ x. c == x) p.text)) _ e in
        let some = and_true (nat_lt 0 (length p.text)) _ f in
        rw (not_spelled c cs p.text (is_excluded p t line_has_ended (drop (length p.text) (c ∷ cs))) both.0 some.0)
        (none_of ps both.1 some.1)
