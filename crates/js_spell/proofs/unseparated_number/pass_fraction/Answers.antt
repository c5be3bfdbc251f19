use Rattle.std.proofs.Common.{sym, false}
use Rattle.js_spell.proofs.NumericSteps.{no_fraction_read}
use Rattle.js_spell.proofs.UnseparatedNumbers.{fraction_passed}
use Rattle.js_spell.proofs.unseparated_number.pass_fraction.Goals as goal

pub returns-then-begins_digit-clause-reads : goal.returns-then-begins_digit-clause-reads
returns-then-begins_digit-clause-reads c = λ end errors.
    fraction_passed c.table_of.result.now c.args.source.now c.pass_ascii.new.self c.pass_exponent_or.new.source errors
    c.pass_exponent_or.result c.table_of.ensures c.pass_ascii.ensures.text
    c.pass_ascii.ensures.run c.pass_ascii.ensures.stops (sym c.if-begins_digit.ensures)
    (c.pass_exponent_or.ensures.follows end) (c.pass_exponent_or.ensures.reads end errors)

pub returns-clause-reads : goal.returns-clause-reads
returns-clause-reads c = λ end errors.
    no_fraction_read c.args.source.now c.pass_exponent_or-2.new.source errors errors false false
    c.pass_exponent_or-2.result (sym c.if-begins_digit.ensures) (c.pass_exponent_or-2.ensures.reads end errors)
