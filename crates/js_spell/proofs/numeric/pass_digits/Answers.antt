use Rattle.std.proofs.Common.{sym}
use Rattle.js_spell.specs.Numeric.{radix_of_digits}
use Rattle.js_spell.proofs.NumericSteps.{radix_is_small, passes_whole, passes_separator, passes_broken}
use Rattle.js_spell.proofs.numeric.pass_digits.Goals as goal

pub returns-then-not-advance_if_ascii_eq : goal.returns-then-not-advance_if_ascii_eq
returns-then-not-advance_if_ascii_eq c =
    let cases = c.if-not-advance_if_ascii_eq.ensures.cases in
    rw cases.1
    (passes_whole (radix_of_digits c.args.digits) c.table_of.result.now c.args.source.now c.pass_ascii.new.self
    (radix_is_small c.args.digits) c.table_of.ensures c.pass_ascii.ensures.text c.pass_ascii.ensures.run
    c.pass_ascii.ensures.stops cases.0)

pub returns-then-begins_digit : goal.returns-then-begins_digit
returns-then-begins_digit c =
    passes_separator (radix_of_digits c.args.digits) c.table_of.result.now c.args.source.now c.pass_ascii.new.self
    (radix_is_small c.args.digits) c.table_of.ensures c.pass_ascii.ensures.text c.pass_ascii.ensures.run
    c.advance_if_ascii_eq.new.self c.if-not-advance_if_ascii_eq.ensures.cases (sym c.if-begins_digit.ensures)

pub returns-else-begins_digit : goal.returns-else-begins_digit
returns-else-begins_digit c =
    passes_broken (radix_of_digits c.args.digits) c.table_of.result.now c.args.source.now c.pass_ascii.new.self
    (radix_is_small c.args.digits) c.table_of.ensures c.pass_ascii.ensures.text c.pass_ascii.ensures.run
    c.advance_if_ascii_eq.new.self c.if-not-advance_if_ascii_eq.ensures.cases (sym c.if-begins_digit.ensures)
