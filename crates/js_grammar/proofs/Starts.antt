-- What begins a name, a private name, a number or a punctuator begins no other of these.
use Rattle.std.proofs.Common.{◌≡◌, ℕ, ◌<◌, Bool, true, false, not, ◌||◌, ◌&&◌, ◌==◌, List, [], ◌∷◌, ◌++◌}
use Rattle.std.proofs.Common.{refl, sym, ◌∙◌, ap, subst, inl, inr, arith}
use Rattle.std.specs.Char.{is_ascii_digit}
use Rattle.std.specs.List.{list_all}
use Rattle.std.proofs.lemmas.Bool.{eqb-true}
use Rattle.unicode_ident.proofs.Computing.{unicode_ident}
use Rattle.js_text.specs.Ascii.{backslash, full_stop, number_sign}
use Rattle.js_text.specs.Characters.{begins, is_identifier_start}
use Rattle.js_text.specs.declared.source_type.SourceType.{SourceType}
use Rattle.js_kind.specs.Digits.{is_digit_of}
use Rattle.js_kind.proofs.Digits.{digits_of_ten}
use Rattle.js_grammar.specs.Name.{IsName, begins_name}
use Rattle.js_grammar.specs.Number.{begins_number}
use Rattle.js_grammar.specs.Punctuators.{Punctuator, punctuators, NoPunctuator}
use Rattle.js_grammar.specs.Spelling.{begins_named}
use Rattle.js_grammar.proofs.NumberClasses.{all_below, below, digit_more, digit_is_ascii}
use Rattle.js_grammar.proofs.NumberItems.{true_or_false}
use Rattle.js_grammar.proofs.LongestPunctuators.{none, none_dot}
use Rattle.js_grammar.proofs.Tests.{and_true}

not_true : (b : Bool) → not b ≡ true → b ≡ false
not_true true e = absurd (cc)
not_true false e = refl

of_test : (a b : Bool) → (not a || b) ≡ true → a ≡ true → b ≡ true
of_test true b e h = e
of_test false b e h = absurd (cc)

-- what one class begins, another doesn't
pub excluded : (a b : Bool) → (a ≡ true → b ≡ false) → b ≡ true → a ≡ false
excluded true b h e = let none = h refl in absurd (cc)
excluded false b h e = refl

-- no punctuator begins with the character
abbrev begins_no_punctuator : ℕ → Bool
begins_no_punctuator c = list_all (λ p. not (begins (λ x. c == x) p.text)) punctuators

-- the punctuator begins as no name does
abbrev is_unnamed : Punctuator → Bool
is_unnamed p = not (begins begins_named p.text)

punctuators_unnamed : list_all is_unnamed punctuators ≡ true
unfolding is_identifier_start unicode_ident
punctuators_unnamed = refl

named_is_another : (c : ℕ) (xs : List ℕ) → begins_named c ≡ true → not (begins begins_named xs) ≡ true
    → not (begins (λ x. c == x) xs) ≡ true
named_is_another c [] named e = refl
named_is_another c (x ∷ xs) named e =
    elim (true_or_false (c == x)) [
      | inl same ↦ (
          let no : begins_named c ≡ false = ap begins_named (eqb-true c x same) ∙ not_true (begins_named x) e in
          absurd (cc))
      | inr other ↦ rw other refl
    ]

named_are_others : (c : ℕ) (ps : List Punctuator) → begins_named c ≡ true → list_all is_unnamed ps ≡ true
    → list_all (λ p. not (begins (λ x. c == x) p.text)) ps ≡ true
named_are_others c [] named e = refl
named_are_others c (p ∷ ps) named e =
    let both = and_true (is_unnamed p) (list_all is_unnamed ps) e in
    rw (named_is_another c p.text named both.0) (named_are_others c ps named both.1)

-- where a name or a private name begins, no punctuator does
pub named_begins_no_punctuator : (t : SourceType) (line_has_ended : Bool) (text : List ℕ)
    → begins begins_named text ≡ true → NoPunctuator t line_has_ended text
named_begins_no_punctuator t line_has_ended [] e = absurd (cc)
named_begins_no_punctuator t line_has_ended (c ∷ cs) e =
    none t line_has_ended c cs (named_are_others c punctuators e punctuators_unnamed)

-- no name and no punctuator begins with the character
abbrev begins_no_other : ℕ → Bool
begins_no_other c = not (begins_named c) && begins_no_punctuator c

digits_begin_no_other : all_below (λ c. not (is_digit_of 10 c) || begins_no_other c) 128 ≡ true
unfolding is_digit_of is_identifier_start unicode_ident
digits_begin_no_other = refl

digit_begins_no_other : (c : ℕ) → is_digit_of 10 c ≡ true → begins_no_other c ≡ true
digit_begins_no_other c e =
    let low : c < 128 = digit_is_ascii c (digit_more 10 16 c (omega arith) e) in
    of_test (is_digit_of 10 c) (begins_no_other c)
    (below (λ d. not (is_digit_of 10 d) || begins_no_other d) 128 c digits_begin_no_other low) e

point_begins_no_name : begins_named 46 ≡ false
unfolding is_identifier_start unicode_ident
point_begins_no_name = refl

-- where a number begins, no name and no private name does
pub number_begins_no_named : (text : List ℕ) → begins_number text ≡ true → begins begins_named text ≡ false
number_begins_no_named [] e = absurd (cc)
number_begins_no_named (c ∷ cs) e =
    elim (true_or_false (c == full_stop)) [
      | inl is ↦ ap begins_named (eqb-true c full_stop is) ∙ point_begins_no_name
      | inr other ↦
          not_true (begins_named c)
          (and_true (not (begins_named c)) (begins_no_punctuator c) (digit_begins_no_other c (rw other at e))).0
    ]

pub named_begins_no_number : (text : List ℕ) → begins begins_named text ≡ true → begins_number text ≡ false
named_begins_no_number text named =
    excluded (begins_number text) (begins begins_named text) (number_begins_no_named text) named

ascii_digit_begins : (cs : List ℕ) → begins (is_digit_of 10) cs ≡ true → begins is_ascii_digit cs ≡ true
ascii_digit_begins [] e = e
ascii_digit_begins (c ∷ cs) e = digits_of_ten c ∙ e

pub number_begins_no_punctuator : (t : SourceType) (line_has_ended : Bool) (text : List ℕ)
    → begins_number text ≡ true → NoPunctuator t line_has_ended text
number_begins_no_punctuator t line_has_ended [] e = absurd (cc)
number_begins_no_punctuator t line_has_ended (c ∷ cs) e =
    elim (true_or_false (c == full_stop)) [
      | inl is ↦
          subst (λ d. NoPunctuator t line_has_ended (d ∷ cs)) (sym (eqb-true c full_stop is))
          (none_dot t line_has_ended cs (ascii_digit_begins cs (rw is at e)))
      | inr other ↦
          none t line_has_ended c cs
          (and_true (not (begins_named c)) (begins_no_punctuator c) (digit_begins_no_other c (rw other at e))).1
    ]

or_more : (a b c : Bool) → (a || b) ≡ true → (a || (b || c)) ≡ true
or_more true b c e = refl
or_more false true c e = refl
or_more false false c e = absurd (cc)

-- a name begins as such, and so does a private name
pub name_is_named : (text : List ℕ) → begins_name text ≡ true → begins begins_named text ≡ true
name_is_named [] e = e
name_is_named (c ∷ cs) e = or_more (is_identifier_start c) (c == backslash) (c == number_sign) e

-- and where no such begins, neither does
pub named_false : (text : List ℕ) → begins begins_named text ≡ false
    → (begins_name text ≡ false) × (begins (λ c. c == number_sign) text ≡ false)
named_false [] e = (refl, refl)
named_false (c ∷ cs) e = parts (is_identifier_start c) (c == backslash) (c == number_sign) e
  where
    parts : (a b d : Bool) → (a || (b || d)) ≡ false → ((a || b) ≡ false) × (d ≡ false)
    parts true b d e = absurd (cc)
    parts false true d e = absurd (cc)
    parts false false d e = (refl, e)

pub none_named : (text : List ℕ) → begins_name text ≡ false → begins (λ c. c == number_sign) text ≡ false
    → begins begins_named text ≡ false
none_named [] e f = refl
none_named (c ∷ cs) e f = whole (is_identifier_start c) (c == backslash) (c == number_sign) e f
  where
    whole : (a b d : Bool) → (a || b) ≡ false → d ≡ false → (a || (b || d)) ≡ false
    whole true b d e f = e
    whole false true d e f = e
    whole false false d e f = f

number_sign_is_named : (begins_named 35 ≡ true) × (begins_name (35 ∷ []) ≡ false)
unfolding is_identifier_start unicode_ident
number_sign_is_named = (refl, refl)

pub private_is_named : (cs : List ℕ) → begins begins_named (number_sign ∷ cs) ≡ true
private_is_named cs = number_sign_is_named.0

pub private_begins_no_name : (cs : List ℕ) → begins_name (number_sign ∷ cs) ≡ false
private_begins_no_name cs = number_sign_is_named.1

-- where a name begins, no `#` does
pub named_apart : (text : List ℕ) → begins_name text ≡ true → begins (λ c. c == number_sign) text ≡ false
named_apart [] e = absurd (cc)
named_apart (c ∷ cs) e =
    elim (true_or_false (c == number_sign)) [
      | inl is ↦ (
          let no : true ≡ false =
          sym e ∙ ap (λ d. begins_name (d ∷ [])) (eqb-true c number_sign is) ∙ number_sign_is_named.1 in
          absurd (cc))
      | inr other ↦ other
    ]

-- the characters of a name begin one, whatever follows
pub name_begins : (xs ys : List ℕ) → IsName xs → begins_name (xs ++ ys) ≡ true
name_begins [] ys is = absurd (is.some refl)
name_begins (c ∷ cs) ys is =
    elim (true_or_false (c == backslash)) [
      | inl mark ↦ rw mark (or_true (is_identifier_start c))
      | inr other ↦ elim (true_or_false (is_identifier_start c)) [
        | inl start ↦ rw start refl
        | inr none ↦ (let no : [] ≡ c ∷ cs = rw (other, none) at is.whole in absurd (cc))
      ]
    ]
  where
    or_true : (b : Bool) → (b || true) ≡ true
    or_true true = refl
    or_true false = refl
