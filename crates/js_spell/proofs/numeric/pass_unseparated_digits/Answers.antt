use Rattle.std.proofs.Common.{sym}
use Rattle.js_spell.proofs.LegacySteps.{passes_octal, passes_decimal}
use Rattle.js_spell.proofs.numeric.pass_unseparated_digits.Goals as goal

pub returns-then-not-begins_digit : goal.returns-then-not-begins_digit
returns-then-not-begins_digit c =
    passes_octal c.table_of.result.now c.args.source.now c.pass_ascii.new.self c.table_of.ensures
    c.pass_ascii.ensures.text c.pass_ascii.ensures.run (sym c.if-not-begins_digit.ensures)

pub returns : goal.returns
returns c =
    passes_decimal c.table_of.result.now c.args.source.now c.pass_ascii.new.self c.table_of.ensures
    c.pass_ascii.ensures.text
    c.pass_ascii.ensures.run c.table_of-2.result.now c.table_of-2.ensures c.pass_ascii-2.new.self
    c.pass_ascii-2.ensures.text c.pass_ascii-2.ensures.run
    c.pass_ascii.ensures.stops (sym c.if-not-begins_digit.ensures) c.pass_ascii-2.ensures.stops
