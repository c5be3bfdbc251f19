-- What a search passes over, and what a reader that looks for characters may conclude from it.
use Rattle.std.specs.Char.{encode_utf8}
use Rattle.std.proofs.Common.{◌≡◌, ℕ, Bool, true, false, ◌==◌, ◌||◌, subst, if◌then◌else◌, List, [], ◌∷◌, ◌++◌, refl}
use Rattle.std.proofs.Common.{sym, ap, ◌∙◌}
use Rattle.std.proofs.lemmas.Bool.{eqb-true}
use Rattle.js_text.specs.Characters.{from_place, from_first, before_first, is_line_terminator}
use Rattle.js_source.specs.Search.{matches_at, matches_char}

module _ (p q : ℕ → Bool) (stops : (c : ℕ) → p c ≡ true → q c ≡ true) where
  no_earlier : (c : ℕ) → q c ≡ false → p c ≡ false
  no_earlier c e = by_test (p c) refl
    where
      by_test : (b : Bool) → p c ≡ b → b ≡ false
      by_test true t = absurd (let both : true ≡ false = sym (stops c t) ∙ e in cc)
      by_test false t = refl

  -- a search that stops at every character that passes p does not go past the first of them
  pub from_first-from_first : (cs : List ℕ) → from_first p cs ≡ from_first p (from_first q cs)
  from_first-from_first [] = refl
  from_first-from_first (c ∷ cs) = by_test (q c) refl (from_first-from_first cs)
    where
      by_test : (b : Bool) → q c ≡ b → from_first p cs ≡ from_first p (from_first q cs)
          → from_first p (c ∷ cs) ≡ from_first p (if b then c ∷ cs else from_first q cs)
      by_test true e more = refl
      by_test false e more = rw (no_earlier c e) more

  pub before_first-from_first_of : (cs : List ℕ)
      → before_first p cs ≡ before_first q cs ++ before_first p (from_first q cs)
  before_first-from_first_of [] = refl
  before_first-from_first_of (c ∷ cs) = by_test (q c) refl (before_first-from_first_of cs)
    where
      by_test : (b : Bool) → q c ≡ b → before_first p cs ≡ before_first q cs ++ before_first p (from_first q cs)
          → before_first p (c ∷ cs) ≡ (if b then [] else c ∷ before_first q cs) ++ before_first p
          (if b then c ∷ cs else from_first q cs)
      by_test true e more = refl
      by_test false e more = rw (no_earlier c e) (ap (λ x. c ∷ x) more)

-- the characters that such a search passes over
abbrev pub skipped : List Bool → List ℕ → ℕ → List ℕ
skipped table text from = before_first (matches_char table) (from_place text from)

either_way : (x y : Bool) (P : Type 0) → (x || y) ≡ true → (x ≡ true → P) → (y ≡ true → P) → P
either_way true y P e f g = f refl
either_way false y P e f g = g e

-- a table that has LF, CR and the first byte of U+2028 and U+2029 stops at every line terminator
pub line_terminator_matches : (table : List Bool) → matches_at table 10 ≡ true → matches_at table 13 ≡ true
    → matches_at table 0xE2 ≡ true
    → (c : ℕ) → is_line_terminator c ≡ true → matches_char table c ≡ true
unfolding is_line_terminator encode_utf8
line_terminator_matches table lf cr sep c e =
    either_way ((c == 10) || (c == 13)) ((c == 0x2028) || (c == 0x2029)) _ e
    (λ ascii. either_way (c == 10) (c == 13) _ ascii (λ t. at 10 (eqb-true c 10 t) lf) (λ t. at 13
    (eqb-true c 13 t) cr))
    (λ wide. either_way (c == 0x2028) (c == 0x2029) _ wide (λ t. at 0x2028 (eqb-true c 0x2028 t) sep)
    (λ t. at 0x2029 (eqb-true c 0x2029 t) sep))
  where
    at : (d : ℕ) → c ≡ d → matches_char table d ≡ true → matches_char table c ≡ true
    at d same h = subst (λ x. matches_char table x ≡ true) (sym same) h
