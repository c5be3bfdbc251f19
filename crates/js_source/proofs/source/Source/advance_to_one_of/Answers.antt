use Rattle.std.proofs.Common.{arith}
use Rattle.js_source.proofs.Fours.{has_four, is_safe_table, others_passed}
use Rattle.js_source.proofs.Places.{at_place}
use Rattle.js_source.proofs.RunSteps.{next_byte}
use Rattle.js_source.proofs.Stops.{stops_from, stops_placed}
use Rattle.js_source.proofs.source.Source.advance_to_one_of.Goals as goal

pub invariant_of-self-inside : goal.invariant_of-self-inside
invariant_of-self-inside c =
    let found = rw c.as_bytes.ensures.value at c.find-to.ensures.first in
    (stops_placed _ _ _ _ (is_safe_table c.args.four c.requires) c.self.inside.placed found, tt)

pub returns-clause-rest : goal.returns-clause-rest
returns-clause-rest c =
    let found = rw c.as_bytes.ensures.value at c.find-to.ensures.first in
    rw (← c.self.view_is) (stops_from _ _ _ _ (is_safe_table c.args.four c.requires) c.self.inside.placed found).1

pub returns-clause-others : goal.returns-clause-others
returns-clause-others c =
    let found = rw c.as_bytes.ensures.value at c.find-to.ensures.first in
    rw (← c.self.view_is)
    (others_passed c.args.four _ _ _
    (has_four c.args.four (omega arith) (omega arith) (omega arith) (omega arith)) found)

pub returns-clause-none : goal.returns-clause-none
returns-clause-none c =
    let found = rw c.as_bytes.ensures.value at c.find-to.ensures.first in
    let to = at_place _ _ (stops_placed _ _ _ _ (is_safe_table c.args.four c.requires) c.self.inside.placed found) in
    (next_byte to _ (rw c.as_bytes.ensures.value at c.find-to.ensures.byte)).0

pub returns-clause-some : goal.returns-clause-some
returns-clause-some c =
    let found = rw c.as_bytes.ensures.value at c.find-to.ensures.first in
    let to = at_place _ _ (stops_placed _ _ _ _ (is_safe_table c.args.four c.requires) c.self.inside.placed found) in
    (next_byte to _ (rw c.as_bytes.ensures.value at c.find-to.ensures.byte)).1
