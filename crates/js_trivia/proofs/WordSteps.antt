-- Comments that no mark and no word begins.
use Rattle.std.proofs.Common.{◌≡◌, ◌<◌, ◌&&◌, ◌==◌, ℕ, Bool, true, false, arith, refl, sym, ◌∙◌}
use Rattle.std.proofs.lemmas.Bool.{eqb-true, eq-eqb}
use Rattle.js_text.specs.declared.comment.CommentContent.TheVariants as variant
use Rattle.js_grammar.specs.CommentClasses.{is_beyond_ascii}

and_false : (a : Bool) → (a && false) ≡ false
and_false true = refl
and_false false = refl

-- a test for another number, the other way round
turned : (a b : ℕ) → (a == b) ≡ false → (b == a) ≡ false
turned a b differ = by_test (b == a) refl
  where
    by_test : (same : Bool) → (b == a) ≡ same → same ≡ false
    by_test true e =
        absurd (let both : true ≡ false = sym (eq-eqb a b (sym (eqb-true b a e))) ∙ differ in cc)
    by_test false e = refl

pub below_128 : (b : ℕ) → b < 128 → is_beyond_ascii b ≡ false
unfolding is_beyond_ascii
below_128 b small = grind arith
