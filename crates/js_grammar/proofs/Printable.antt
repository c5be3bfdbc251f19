-- The printable characters of ASCII: each begins a name, a number, a punctuator, a string or a template, or is
-- white space.
use Rattle.std.proofs.Common.{◌≡◌, ℕ, ◌+◌, ◌<◌, ◌≤◌, Bool, true, false, not, ◌||◌, ◌==◌, zero, suc, List, [], ◌∷◌, ◌++◌}
use Rattle.std.proofs.Common.{refl, sym, ◌∙◌, ap, subst, arith, inl, inr}
use Rattle.std.specs.Prelude.{codes}
use Rattle.std.specs.List.{list_all, list_any, AllByRecursion, range_with_len}
use Rattle.std.proofs.lemmas.Bool.{eqb-true, or_cases}
use Rattle.std.proofs.lemmas.Bool.Decides.{nat_tests}
use Rattle.unicode_ident.proofs.Computing.{unicode_ident}
use Rattle.js_text.specs.Characters.{is_identifier_start, is_white_space, is_irregular_whitespace}
use Rattle.js_text.specs.declared.source_type.SourceType.{SourceType}
use Rattle.js_kind.specs.Digits.{is_digit_of}
use Rattle.js_grammar.specs.Quoted.{begins_quoted}
use Rattle.js_grammar.specs.Punctuators.{Punctuator, punctuators, IsIn, is_spelled, NoPunctuator, is_excluded}
use Rattle.js_grammar.proofs.PunctuatorLemmas.{passes_at, spelled_at}
use Rattle.js_grammar.specs.Spelling.{begins_named}
use Rattle.js_grammar.proofs.Tests.{and_true}

not_both : (b : Bool) → not b ≡ true → b ≡ true → ⊥
not_both true e f = cc
not_both false e f = cc

-- a punctuator that stands there, with what may follow it
pub spelled_there : (t : SourceType) (line_has_ended : Bool) (p : Punctuator) (vs : List ℕ) → IsIn p punctuators
    → is_excluded p t line_has_ended vs ≡ false → NoPunctuator t line_has_ended (p.text ++ vs) → ⊥
spelled_there t line_has_ended p vs i allowed none =
    not_both _ (passes_at (λ q. not (is_spelled t line_has_ended (p.text ++ vs) q)) p punctuators i none)
    (spelled_at t line_has_ended p vs allowed)

-- the characters of ASCII that are punctuators whatever follows them
abbrev pub lone_characters : List ℕ
lone_characters = codes "&!^:,=[{(-%|+?>]});*~@"

-- some punctuator is spelled there
abbrev is_begun : SourceType → Bool → List ℕ → Bool
is_begun t line_has_ended text = not (list_all (λ q. not (is_spelled t line_has_ended text q)) punctuators)

each_begins : (t : SourceType) (line_has_ended : Bool) (cs xs : List ℕ)
    → list_all (λ x. is_begun t line_has_ended (x ∷ cs)) xs ≡ true
    → AllByRecursion (λ x. NoPunctuator t line_has_ended (x ∷ cs) → ⊥) xs
each_begins t line_has_ended cs [] e = tt
each_begins t line_has_ended cs (x ∷ xs) e =
    let both =
    and_true (is_begun t line_has_ended (x ∷ cs)) (list_all (λ y. is_begun t line_has_ended (y ∷ cs)) xs) e in
    (λ none. not_both _ both.0 none, each_begins t line_has_ended cs xs both.1)

-- where no punctuator stands, none of these begins the text
pub lone_begin : (t : SourceType) (line_has_ended : Bool) (cs : List ℕ)
    → AllByRecursion (λ x. NoPunctuator t line_has_ended (x ∷ cs) → ⊥) lone_characters
lone_begin t line_has_ended cs = each_begins t line_has_ended cs lone_characters refl

pub none_of : (P : ℕ → Type 0) (c : ℕ) (xs : List ℕ) → AllByRecursion P xs → list_any (λ x. x == c) xs ≡ true → P c
none_of P c [] all e = absurd (cc)
none_of P c (x ∷ xs) all e =
    elim (or_cases (x == c) (list_any (λ y. y == c) xs) e)
    [ inl here ↦ subst P (eqb-true x c here) all.0 | inr there ↦ none_of P c xs all.1 there ]

-- what a printable character of ASCII is
abbrev pub is_known : ℕ → Bool
is_known c =
    begins_named c ||
    (is_white_space c ||
    (is_digit_of 10 c ||
    (begins_quoted c || (list_any (λ x. x == c) lone_characters || ((c == 46) || ((c == 47) || (c == 60)))))))

pub printable_known : list_all is_known (range_with_len 32 95) ≡ true
unfolding is_identifier_start is_white_space is_irregular_whitespace is_digit_of unicode_ident
printable_known = refl

pub known_at : (P : ℕ → Bool) (a n c : ℕ) → list_all P (range_with_len a n) ≡ true → a ≤ c → c < a + n → P c ≡ true
known_at P a zero c e low high = absurd (omega arith)
known_at P a (suc n) c e low high =
    let both = and_true (P a) (list_all P (range_with_len (a + 1) n)) e in
    by_test (a == c) refl both.0 (λ lower. known_at P (a + 1) n c both.1 lower (omega arith))
  where
    by_test : (b : Bool) → (a == c) ≡ b → P a ≡ true → (a + 1 ≤ c → P c ≡ true) → P c ≡ true
    by_test true t here later = ap P (sym (eqb-true a c t)) ∙ here
    by_test false t here later = later (grind (arith, nat_tests))
