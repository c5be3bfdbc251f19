use Rattle.std.proofs.Common.{subst, []}
use Rattle.std.proofs.lemmas.Result.{on_err_weaker}
use Rattle.js_grammar.specs.NumberReads.{behind_digits, exponent_or, missing_digits}
use Rattle.js_kind.specs.declared.kind.Kind.TheVariants.{Decimal}
use Rattle.js_source.specs.Source.{At, rest}
use Rattle.js_spell.specs.Numeric.{ReadsEnd}
use Rattle.js_spell.specs.Breaks.{BreaksOff}
use Rattle.js_spell.proofs.BreakSteps.{broken_first, on_err}
use Rattle.js_spell.proofs.NumericSteps.{behind_point_broken, behind_point_read, behind_other_read, if_ok_map}
use Rattle.js_spell.proofs.numeric.read_behind_digits.Goals as goal

pub returns-then-advance_if_ascii_eq-clause-ok : goal.returns-then-advance_if_ascii_eq-clause-ok
returns-then-advance_if_ascii_eq-clause-ok c =
    behind_point_read c.args.source.now c.advance_if_ascii_eq.new.self c.read_fraction.new.source c.args.errors.now
    c.read_fraction.new.errors c.args.has_separator.now c.read_fraction.new.has_separator
    c.if-advance_if_ascii_eq.ensures.cases c.in_ok-read_fraction.ensures.ok

pub returns-clause-ok : goal.returns-clause-ok
returns-clause-ok c =
    let none = c.if-advance_if_ascii_eq.ensures.cases in
    if_ok_map c.read_exponent_or.result _ _
    (λ kind end. behind_other_read c.args.source.now c.read_exponent_or.new.source c.args.errors.now
    c.read_exponent_or.new.errors
    c.args.has_separator.now c.read_exponent_or.new.has_separator kind none.0
    (subst
    (λ (at : At). ReadsEnd at c.read_exponent_or.new.source c.args.errors.now c.read_exponent_or.new.errors
    c.args.has_separator.now
    c.read_exponent_or.new.has_separator kind (exponent_or Decimal (rest at))) none.1 end))
    c.read_exponent_or.ensures.ok

pub returns-in_err-read_fraction-clause-err : goal.returns-in_err-read_fraction-clause-err
returns-in_err-read_fraction-clause-err c =
    on_err c.from_residual.result _
    (behind_point_broken c.args.source.now c.advance_if_ascii_eq.new.self c.read_fraction.new.source c.args.errors.now
    c.read_fraction.new.errors c.if-advance_if_ascii_eq.ensures.cases c.in_err-read_fraction.ensures.err)

pub returns-clause-err : goal.returns-clause-err
returns-clause-err c =
    let none = c.if-advance_if_ascii_eq.ensures.cases in
    on_err_weaker c.read_exponent_or.result
    (λ broken. broken_first (missing_digits c.args.source.now.place (behind_digits (rest c.args.source.now)).items)
    c.args.source.now c.read_exponent_or.new.source c.args.errors.now c.read_exponent_or.new.errors
    (subst (λ (at : At). BreaksOff [] at c.read_exponent_or.new.source c.args.errors.now c.read_exponent_or.new.errors)
    none.1 broken)) c.read_exponent_or.ensures.err
