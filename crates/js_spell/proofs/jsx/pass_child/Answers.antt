use Rattle.std.proofs.Common.{arith, refl, sym, ◌∙◌, ap, length, subst, ◌++◌, ◌∷◌, []}
use Rattle.js_text.proofs.TextLemmas.{length-from_first}
use Rattle.js_source.specs.Source.{At, rest}
use Rattle.js_spell.specs.Goals.{PassesChild, ends_of}
use Rattle.js_spell.specs.declared.jsx.Text.TheVariants.{Child}
use Rattle.js_spell.proofs.BreakSteps.{on_err}
use Rattle.js_spell.proofs.ChildSteps.{angle_left, child_passed, ends_here, run_passed, warns_in_part, warns_nothing}
use Rattle.js_spell.proofs.ChildSteps.{warns_of_angle, WarnsUpTo}
use Rattle.js_spell.proofs.jsx.pass_child.Goals as goal

pub angles-init : goal.angles-init
angles-init c = record {
  text = refl;
  left = refl;
  warned = warns_nothing c.args.source.now c.args.warnings.now;
  onward = omega arith;
}

pub returns-then-not-advance_if_ascii_eq-clause-ok :
    goal.returns-then-not-advance_if_ascii_eq-clause-ok
returns-then-not-advance_if_ascii_eq-clause-ok c =
    let at = c.args.source.now in
    let now = c.angles.source in
    let mid = c.pass_text-end.new.source in
    let end = c.pass_text-end.result in
    let ends = c.pass_text-end.ensures in
    let no_angle = c.if-not-advance_if_ascii_eq.ensures.cases in
    subst (λ (new : At). PassesChild at new c.args.warnings.now c.angles.warnings end) (sym no_angle.1)
    (child_passed at now mid c.args.warnings.now c.angles.warnings end c.angles.invariant.text
    c.angles.invariant.left c.angles.invariant.warned ends.text (run_passed now mid ends.text ends.rest)
    (ends_here end (rest mid) no_angle.0 ends.none ends.some))

pub returns-then-not-advance_if_ascii_eq-clause-text :
    goal.returns-then-not-advance_if_ascii_eq-clause-text
returns-then-not-advance_if_ascii_eq-clause-text c =
    ap (λ (s : At). s.text) c.if-not-advance_if_ascii_eq.ensures.cases.1 ∙ c.pass_text-end.ensures.text
    ∙ c.angles.invariant.text

pub returns-then-not-advance_if_ascii_eq-clause-onward :
    goal.returns-then-not-advance_if_ascii_eq-clause-onward
returns-then-not-advance_if_ascii_eq-clause-onward c =
    omega (
      arith,
      c.angles.invariant.onward,
      c.pass_text-end.ensures.onward,
      c.advance_if_ascii_eq.ensures.onward,
    )

pub angles-smaller : goal.angles-smaller
angles-smaller c =
    omega (
      arith,
      ap length c.if-not-advance_if_ascii_eq.ensures.cases.here,
      ap length c.pass_text-end.ensures.rest,
      length-from_first (ends_of Child) (rest c.angles.source),
    )

pub angles-preserved : goal.angles-preserved
angles-preserved c =
    let now = c.angles.source in
    let mid = c.pass_text-end.new.source in
    let new = c.advance_if_ascii_eq.new.self in
    let ends = c.pass_text-end.ensures in
    let read = c.if-not-advance_if_ascii_eq.ensures.cases in
    let run = run_passed now mid ends.text ends.rest in
    record {
      text = read.text ∙ ends.text ∙ c.angles.invariant.text;
      left = c.angles.invariant.left ∙ run.left ∙ angle_left mid new read;
      warned =
          warns_of_angle c.args.source.now now mid new c.args.warnings.now c.angles.warnings c.push.new.self
          c.offset-start.result c.offset.result
          c.angles.invariant.warned run read c.offset-start.ensures.place c.offset.ensures.place
          (c.in_ok-push.ensures.ok ∙ ap (λ span. c.angles.warnings ++ span ∷ []) c.new.ensures);
      onward =
          omega (
            arith,
            c.angles.invariant.onward,
            ends.onward,
            c.advance_if_ascii_eq.ensures.onward,
          );
    }

pub returns-in_err-push-clause-text : goal.returns-in_err-push-clause-text
returns-in_err-push-clause-text c =
    c.if-not-advance_if_ascii_eq.ensures.cases.text ∙ c.pass_text-end.ensures.text ∙ c.angles.invariant.text

pub returns-in_err-push-clause-onward : goal.returns-in_err-push-clause-onward
returns-in_err-push-clause-onward c =
    omega (
      arith,
      c.angles.invariant.onward,
      c.pass_text-end.ensures.onward,
      c.advance_if_ascii_eq.ensures.onward,
    )

pub returns-in_err-push-clause-err : goal.returns-in_err-push-clause-err
returns-in_err-push-clause-err c =
    on_err c.from_residual.result _
    (warns_in_part c.args.source.now c.angles.source c.args.warnings.now c.push.new.self
    (subst (WarnsUpTo c.args.source.now c.angles.source c.args.warnings.now) (sym c.in_err-push.ensures.err)
    c.angles.invariant.warned))
