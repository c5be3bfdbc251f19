use Rattle.js_spell.proofs.BreakSteps.{on_err}
use Rattle.js_spell.proofs.EndSteps.{good_number_read, bad_number_read, number_broken, number_end_broken}
use Rattle.js_spell.proofs.numeric.read_numeral.Goals as goal

pub returns-then-is_bad-clause-ok : goal.returns-then-is_bad-clause-ok
returns-then-is_bad-clause-ok c =
    bad_number_read c.args.source.now c.read_items.new.source c.read_bad_end.new.source c.args.errors.now
    c.read_items.new.errors
    c.read_bad_end.new.errors c.read_items.new.has_separator c.in_ok-kind.kind
    c.in_ok-kind.ensures.ok (rw c.if-is_bad.true at c.in_ok-is_bad.ensures.ok)

pub returns-clause-ok : goal.returns-clause-ok
returns-clause-ok c =
    good_number_read c.args.source.now c.read_items.new.source c.read_bad_end.new.source c.args.errors.now
    c.read_items.new.errors
    c.read_bad_end.new.errors c.read_items.new.has_separator c.in_ok-kind.kind
    c.in_ok-kind.ensures.ok (rw c.if-is_bad.false at c.in_ok-is_bad.ensures.ok)

pub returns-in_err-kind-clause-err : goal.returns-in_err-kind-clause-err
returns-in_err-kind-clause-err c =
    on_err c.from_residual.result _
    (number_broken c.args.source.now c.read_items.new.source c.args.errors.now c.read_items.new.errors
    c.in_err-kind.ensures.err)

pub returns-in_err-is_bad-clause-err : goal.returns-in_err-is_bad-clause-err
returns-in_err-is_bad-clause-err c =
    on_err c.from_residual-in_err-is_bad.result _
    (number_end_broken c.args.source.now c.read_items.new.source c.read_bad_end.new.source c.args.errors.now
    c.read_items.new.errors c.read_bad_end.new.errors c.read_items.new.has_separator c.in_ok-kind.kind
    c.in_ok-kind.ensures.ok c.in_err-is_bad.ensures.err)
