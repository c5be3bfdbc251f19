use Rattle.std.proofs.Common.{sym}
use Rattle.js_grammar.specs.NumberReads.{fraction_items, missing_digits}
use Rattle.js_source.specs.Source.{rest}
use Rattle.js_spell.proofs.BreakSteps.{broken_first, on_err}
use Rattle.js_spell.proofs.NumericSteps.{fraction_broken, fraction_read, no_fraction_read}
use Rattle.js_spell.proofs.numeric.read_fraction.Goals as goal

pub returns-then-not-begins_digit-clause-ok : goal.returns-then-not-begins_digit-clause-ok
returns-then-not-begins_digit-clause-ok c =
    no_fraction_read c.args.source.now c.read_exponent_or.new.source c.args.errors.now c.read_exponent_or.new.errors
    c.args.has_separator.now
    c.read_exponent_or.new.has_separator c.in_ok-read_exponent_or.field-0
    (sym c.if-not-begins_digit.ensures) c.in_ok-read_exponent_or.ensures.ok

pub returns-clause-ok : goal.returns-clause-ok
returns-clause-ok c =
    fraction_read c.args.source.now c.read_run.new.source c.read_exponent_or-2.new.source c.args.errors.now
    c.read_run.new.errors
    c.read_exponent_or-2.new.errors c.args.has_separator.now c.read_run.new.has_separator
    c.read_exponent_or-2.new.has_separator c.in_ok-read_run.field-0 c.in_ok-read_exponent_or-2.field-0
    (sym c.if-not-begins_digit.ensures) c.in_ok-read_run.ensures.ok c.in_ok-read_exponent_or-2.ensures.ok

pub returns-in_err-read_exponent_or-clause-err : goal.returns-in_err-read_exponent_or-clause-err
returns-in_err-read_exponent_or-clause-err c =
    on_err c.from_residual.result _
    (broken_first (missing_digits c.args.source.now.place (fraction_items (rest c.args.source.now)).items)
    c.args.source.now c.read_exponent_or.new.source c.args.errors.now c.read_exponent_or.new.errors
    c.in_err-read_exponent_or.ensures.err)

pub returns-in_err-read_run-clause-err : goal.returns-in_err-read_run-clause-err
returns-in_err-read_run-clause-err c =
    on_err c.from_residual-in_err-read_run.result _
    (broken_first (missing_digits c.args.source.now.place (fraction_items (rest c.args.source.now)).items)
    c.args.source.now c.read_run.new.source c.args.errors.now c.read_run.new.errors c.in_err-read_run.ensures.err)

pub returns-in_err-read_exponent_or-2-clause-err : goal.returns-in_err-read_exponent_or-2-clause-err
returns-in_err-read_exponent_or-2-clause-err c =
    on_err c.from_residual-in_err-read_exponent_or-2.result _
    (fraction_broken c.args.source.now c.read_run.new.source c.read_exponent_or-2.new.source c.args.errors.now
    c.read_run.new.errors c.read_exponent_or-2.new.errors c.args.has_separator.now c.read_run.new.has_separator
    c.in_ok-read_run.field-0 (sym c.if-not-begins_digit.ensures)
    c.in_ok-read_run.ensures.ok c.in_err-read_exponent_or-2.ensures.err)
