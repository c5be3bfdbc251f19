use Rattle.std.proofs.Common.{arith, refl}
use Rattle.js_text.specs.Characters.{from_place}
use Rattle.js_source.proofs.Fours.{has_four}
use Rattle.js_source.proofs.Places.{at_place}
use Rattle.js_source.proofs.Pairs.{IsFirstPair, first_pair, no_pair, others_before}
use Rattle.js_source.proofs.source.Source.advance_behind_pair.Goals as goal
use Rattle.js_source.proofs.source.Source.advance_behind_pair.Goals.{In_ok-at}

pub returns-in_err-at-clause-none : goal.returns-in_err-at-clause-none
returns-in_err-at-clause-none c =
    let none = rw c.as_bytes.ensures.value at c.in_err-at.ensures.none in
    rw (c.from_residual.ensures, ← c.self.view_is)
    (no_pair c.args.pair (at_place _ _ c.self.inside.placed) _ c.requires.0 c.requires.1 refl none)

found : (c : In_ok-at)
    → IsFirstPair c.args.pair c.args.four c.self.inside.text.now c.in_ok-at.at c.in_ok-at.is_clean
    (from_place c.self.inside.text.now c.self.inside.place)
found c =
    let passes = rw c.as_bytes.ensures.value at c.in_ok-at.ensures.passes in
    let here = rw c.as_bytes.ensures.value at c.in_ok-at.ensures.here in
    first_pair c.args.pair c.args.four (at_place _ _ c.self.inside.placed) c.in_ok-at.at c.in_ok-at.is_clean _
    c.requires.0 c.requires.1 (has_four c.args.four (omega arith) (omega arith) (omega arith) (omega arith)) refl
    passes here

pub invariant_of-self-inside : goal.invariant_of-self-inside
invariant_of-self-inside c = ((found (goal.at.invariant_of-self-inside c).In_ok-at).placed, tt)

pub returns-clause-some : goal.returns-clause-some
returns-clause-some c = rw (← c.self.view_is) (found (goal.at.returns-clause-some c).In_ok-at).from

pub returns-clause-clean : goal.returns-clause-clean
returns-clause-clean c = rw (← c.self.view_is) (found (goal.at.returns-clause-clean c).In_ok-at).clean

pub returns-clause-others : goal.returns-clause-others
returns-clause-others c =
    let passes = rw c.as_bytes.ensures.value at c.in_ok-at.ensures.passes in
    rw (← c.self.view_is) (λ is. others_before _ _ _ _ _ _ passes is)
