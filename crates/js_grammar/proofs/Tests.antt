-- Laws of tests.
use Rattle.std.proofs.Common.{◌≡◌, ℕ, Bool, true, false, ◌&&◌, ◌==◌, List, [], ◌∷◌, ◌++◌, length, drop, refl}
use Rattle.std.proofs.Common.{◌∙◌, ap}
use Rattle.std.proofs.lemmas.Bool.{eq-eqb, eqb-true}
use Rattle.js_grammar.specs.Gap.{is_prefix}

pub and_true : (a b : Bool) → (a && b) ≡ true → (a ≡ true) × (b ≡ true)
and_true true b e = (refl, e)
and_true false b e = absurd (cc)

pub and_false : (a : Bool) → (a && false) ≡ false
and_false true = refl
and_false false = refl

-- a mark begins a text that goes on behind it
pub prefix_of : (xs ys : List ℕ) → is_prefix xs (xs ++ ys) ≡ true
prefix_of [] ys = refl
prefix_of (x ∷ xs) ys = rw (eq-eqb x x refl) (prefix_of xs ys)

-- and then the text is the mark and what is behind it
pub prefix_is : (xs cs : List ℕ) → is_prefix xs cs ≡ true → cs ≡ xs ++ drop (length xs) cs
prefix_is [] cs e = refl
prefix_is (x ∷ xs) [] e = absurd (cc)
prefix_is (x ∷ xs) (c ∷ cs) e =
    let both = and_true (c == x) (is_prefix xs cs) e in
    ap (λ t. t ∷ cs) (eqb-true c x both.0) ∙ ap (λ t. x ∷ t) (prefix_is xs cs both.1)
