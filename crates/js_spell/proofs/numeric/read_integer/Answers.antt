use Rattle.std.proofs.Common.{subst}
use Rattle.js_source.specs.Source.{At}
use Rattle.js_spell.specs.Numeric.{ReadsRun}
use Rattle.js_spell.proofs.NumericSteps.{zero_read, integer_read}
use Rattle.js_spell.proofs.numeric.read_integer.Goals as goal

pub returns-then-advance_if_ascii_eq-clause-ok : goal.returns-then-advance_if_ascii_eq-clause-ok
returns-then-advance_if_ascii_eq-clause-ok c =
    zero_read c.args.source.now c.advance_if_ascii_eq.new.self c.args.errors.now c.args.has_separator.now
    c.if-advance_if_ascii_eq.ensures.cases

pub returns-clause-ok : goal.returns-clause-ok
returns-clause-ok c =
    let none = c.if-advance_if_ascii_eq.ensures.cases in
    integer_read c.args.source.now c.read_run.new.source c.args.errors.now c.read_run.new.errors
    c.args.has_separator.now c.read_run.new.has_separator
    c.in_ok-read_run.field-0 none.0
    (subst
    (λ (at : At). ReadsRun 10 at c.read_run.new.source c.args.errors.now c.read_run.new.errors
    c.args.has_separator.now
    c.read_run.new.has_separator c.in_ok-read_run.field-0) none.1 c.in_ok-read_run.ensures.ok)
