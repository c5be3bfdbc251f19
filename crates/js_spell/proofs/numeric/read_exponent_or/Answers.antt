use Rattle.js_spell.proofs.NumericSteps.{no_exponent_read, exponent_read}
use Rattle.js_spell.proofs.numeric.read_exponent_or.Goals as goal

pub returns-then-not-take_exponent_mark-clause-ok : goal.returns-then-not-take_exponent_mark-clause-ok
returns-then-not-take_exponent_mark-clause-ok c =
    let none = c.if-not-take_exponent_mark.ensures.cases in
    rw none.1 (no_exponent_read c.args.source.now c.args.errors.now c.args.has_separator.now c.args.without none.0)

pub returns-clause-ok : goal.returns-clause-ok
returns-clause-ok c =
    exponent_read c.args.source.now c.take_exponent_mark.new.source c.take_sign-kind.new.source c.read_run.new.source
    c.args.errors.now c.read_run.new.errors c.args.has_separator.now c.read_run.new.has_separator
    c.in_ok-read_run.field-0 c.args.without c.take_sign-kind.result
    c.if-not-take_exponent_mark.ensures.cases c.take_sign-kind.ensures.sign c.in_ok-read_run.ensures.ok
