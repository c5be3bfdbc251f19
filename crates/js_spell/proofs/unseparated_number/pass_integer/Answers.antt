use Rattle.std.proofs.Common.{false}
use Rattle.js_spell.proofs.NumericSteps.{zero_read}
use Rattle.js_spell.proofs.UnseparatedNumbers.{zero_passed, zero_items_are, other_items_are, integer_passed}
use Rattle.js_spell.proofs.UnseparatedNumbers.{digit_passed}
use Rattle.js_spell.proofs.unseparated_number.pass_integer.Goals as goal

pub returns-then-b-eq48-clause-reads : goal.returns-then-b-eq48-clause-reads
returns-then-b-eq48-clause-reads c = λ follows errors.
    zero_read c.args.source.now c.next_ascii.new.self errors false
    (zero_passed c.args.b c.args.source.now c.next_ascii.new.self c.if-b-eq48.true c.next_ascii.ensures.reads)

pub returns-then-b-eq48-clause-items : goal.returns-then-b-eq48-clause-items
returns-then-b-eq48-clause-items c = λ follows.
    zero_items_are c.args.b c.args.source.now c.next_ascii.new.self c.requires.ascii c.requires.next c.requires.digit
    c.if-b-eq48.true c.next_ascii.ensures.reads follows

pub returns-clause-reads : goal.returns-clause-reads
returns-clause-reads c = λ follows errors.
    integer_passed c.args.b c.table_of.result.now c.args.source.now c.pass_ascii.new.self errors c.table_of.ensures
    c.pass_ascii.ensures.text c.pass_ascii.ensures.run c.pass_ascii.ensures.stops c.requires.ascii c.requires.next
    c.requires.digit c.if-b-eq48.false follows

pub returns-clause-items : goal.returns-clause-items
returns-clause-items c = λ follows.
    other_items_are c.args.b _ c.requires.ascii c.requires.next c.requires.digit c.if-b-eq48.false

pub returns-clause-fewer : goal.returns-clause-fewer
returns-clause-fewer c =
    digit_passed c.table_of.result.now c.args.b c.args.source.now c.pass_ascii.new.self c.table_of.ensures
    c.pass_ascii.ensures.text c.pass_ascii.ensures.run c.pass_ascii.ensures.stops c.requires.ascii c.requires.next
    c.requires.digit
