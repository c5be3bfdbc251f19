use Rattle.std.proofs.Common.{subst}
use Rattle.js_kind.specs.declared.kind.Kind.TheVariants.{GtEq, RAngle, ShiftRight, ShiftRightEq}
use Rattle.js_spell.specs.Goals.{TakesEquals}
use Rattle.js_spell.proofs.JsxSteps.{right_angle, shift_right}
use Rattle.js_spell.proofs.angle.read_right_angle.Goals as goal

pub returns-then-not-advance_if_ascii_eq : goal.returns-then-not-advance_if_ascii_eq
returns-then-not-advance_if_ascii_eq c =
    let missing = c.if-not-advance_if_ascii_eq.ensures.cases in
    right_angle c.args.source.now c.with_equals.new.source c.with_equals.result missing.0
    (subst (λ s. TakesEquals s c.with_equals.new.source RAngle GtEq c.with_equals.result) missing.1
    c.with_equals.ensures.takes)

pub returns-then-not-advance_if_ascii_eq-2 : goal.returns-then-not-advance_if_ascii_eq-2
returns-then-not-advance_if_ascii_eq-2 c =
    let missing = c.if-not-advance_if_ascii_eq-2.ensures.cases in
    let mid = c.advance_if_ascii_eq.new.self in
    let new = c.with_equals-then-not-advance_if_ascii_eq-2.new.source in
    shift_right c.args.source.now mid new c.with_equals-then-not-advance_if_ascii_eq-2.result
    c.if-not-advance_if_ascii_eq.ensures.cases missing.0
    (subst (λ s. TakesEquals s new ShiftRight ShiftRightEq c.with_equals-then-not-advance_if_ascii_eq-2.result)
    missing.1 c.with_equals-then-not-advance_if_ascii_eq-2.ensures.takes)
