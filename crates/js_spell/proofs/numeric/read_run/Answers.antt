use Rattle.std.proofs.Common.{sym}
use Rattle.js_spell.specs.Numeric.{radix_of_digits}
use Rattle.js_spell.specs.declared.numeric.Passed.TheVariants.{Broken}
use Rattle.js_spell.proofs.BreakSteps.{on_err}
use Rattle.js_spell.proofs.NumericSteps.{run_missing_read, run_whole_read, run_broken_read, run_unreported}
use Rattle.js_spell.proofs.numeric.read_run.Goals as goal

pub returns-then-not-begins_digit-clause-ok : goal.returns-then-not-begins_digit-clause-ok
returns-then-not-begins_digit-clause-ok c =
    run_missing_read
    (radix_of_digits c.args.digits) c.args.source.now c.args.errors.now c.report_missing_digit.new.errors
    c.args.has_separator.now
    (sym c.if-not-begins_digit.ensures) c.in_ok-report_missing_digit.ensures.ok

pub returns-in_err-report_missing_digit-2-clause-err : goal.returns-in_err-report_missing_digit-2-clause-err
returns-in_err-report_missing_digit-2-clause-err c =
    on_err c.from_residual-in_err-report_missing_digit-2.result _
    (run_unreported (radix_of_digits c.args.digits) c.args.source.now c.pass_groups-is_whole.new.source
    c.args.errors.now c.report_missing_digit-then-not-is_whole.new.errors c.args.has_separator.now
    c.pass_groups-is_whole.new.has_separator Broken
    c.if-not-is_whole.ensures c.in_err-report_missing_digit-2.ensures.err)

pub returns-in_ok-report_missing_digit-2-clause-ok : goal.returns-in_ok-report_missing_digit-2-clause-ok
returns-in_ok-report_missing_digit-2-clause-ok c =
    rw c.if-not-is_whole.true
    (run_broken_read (radix_of_digits c.args.digits) c.args.source.now c.pass_groups-is_whole.new.source
    c.args.errors.now c.report_missing_digit-then-not-is_whole.new.errors c.args.has_separator.now
    c.pass_groups-is_whole.new.has_separator (sym c.if-not-begins_digit.ensures) c.if-not-is_whole.ensures
    c.in_ok-report_missing_digit-2.ensures.ok)

pub returns-else-not-is_whole-clause-ok : goal.returns-else-not-is_whole-clause-ok
returns-else-not-is_whole-clause-ok c =
    rw c.if-not-is_whole.false
    (run_whole_read
    (radix_of_digits c.args.digits) c.args.source.now c.pass_groups-is_whole.new.source c.args.errors.now
    c.args.has_separator.now c.pass_groups-is_whole.new.has_separator
    (sym c.if-not-begins_digit.ensures) c.if-not-is_whole.ensures)
