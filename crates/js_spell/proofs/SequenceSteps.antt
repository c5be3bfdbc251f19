-- One character further.
use Rattle.std.proofs.Common.{◌≡◌, ℕ, Bool, true, false, List, [], ◌∷◌, ◌++◌, refl, sym, ◌∙◌, ap, ◌==◌, ◌&&◌}
use Rattle.js_text.specs.Characters.{begins}
use Rattle.js_source.specs.Source.{At, rest, BeginsWith, StepsPast}
use Rattle.js_source.proofs.Places.{begins_with}
use Rattle.js_grammar.specs.Gap.{is_prefix}

-- behind a character that was next
pub behind : (c : ℕ) (old new : At) → BeginsWith c (rest old) → StepsPast old new
    → (new.text ≡ old.text) × (rest old ≡ c ∷ rest new)
behind c old new begins past =
    let found = begins_with c (rest old) begins in
    let after = past c found.0 found.1 in
    (after.0, found.1 ∙ ap (λ xs. c ∷ xs) (sym after.1))

-- a mark of which the next character is not next
pub no_prefix : (xs : List ℕ) (y : ℕ) (ys r : List ℕ) → begins (λ c. c == y) r ≡ false
    → is_prefix (xs ++ (y ∷ ys)) (xs ++ r) ≡ false
no_prefix [] y ys [] e = refl
no_prefix [] y ys (c ∷ cs) e = rw e refl
no_prefix (x ∷ xs) y ys r e = and_last (x == x) (no_prefix xs y ys r e)
  where
    and_last : (a : Bool) → is_prefix (xs ++ (y ∷ ys)) (xs ++ r) ≡ false
        → (a && is_prefix (xs ++ (y ∷ ys)) (xs ++ r)) ≡ false
    and_last true h = h
    and_last false h = refl
