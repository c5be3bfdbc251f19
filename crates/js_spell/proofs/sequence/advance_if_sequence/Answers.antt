use Rattle.std.proofs.Common.{◌≡◌, ◌∙◌, ◌∷◌, ◌++◌, sym, ap, subst, suc, take, drop, get_or, refl, drop-cons, false}
use Rattle.std.proofs.Common.{List, ℕ}
use Rattle.std.proofs.lemmas.List.{take-append-drop}
use Rattle.js_source.specs.Source.{rest}
use Rattle.js_grammar.specs.Gap.{is_prefix}
use Rattle.js_spell.proofs.SequenceSteps.{no_prefix}
use Rattle.js_spell.proofs.sequence.advance_if_sequence.Goals as goal

pub returns-then-not-advance_if_ascii_eq : goal.returns-then-not-advance_if_ascii_eq
returns-then-not-advance_if_ascii_eq c =
    let other = c.if-not-advance_if_ascii_eq.ensures.cases in
    let i = c.loop-b.b-index in
    let mark = c.args.sequence.now in
    let front = take i mark in
    let split : front ++ (get_or mark i 0 ∷ drop (suc i) mark) ≡ mark =
    ap (λ xs. front ++ xs) (sym (drop-cons mark i 0 c.loop-b-test.true)) ∙ take-append-drop i mark in
    let none : is_prefix mark (front ++ rest c.loop-b.behind) ≡ false =
    subst (λ (m : List ℕ). is_prefix m (front ++ rest c.loop-b.behind) ≡ false) split
    (no_prefix front (get_or mark i 0) (drop (suc i) mark) (rest c.loop-b.behind) other.0) in
    (ap (is_prefix mark) c.loop-b.invariant.1 ∙ none, refl)
