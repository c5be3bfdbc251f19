use Rattle.js_spell.proofs.DecodeSteps.{other_digit_read, zero_and_digit_read, zero_alone_read}
use Rattle.js_spell.proofs.escape.read_digit_in_template.Goals as goal

pub returns-then-first-ne48 : goal.returns-then-first-ne48
returns-then-first-ne48 c = other_digit_read c.args.first c.args.source.now c.if-first-ne48.true

pub returns-in-Some : goal.returns-in-Some
returns-in-Some c =
    zero_and_digit_read c.args.first c.in-Some.field-0 c.args.source.now c.take_digit.new.source c.if-first-ne48.false
    c.in-Some.ensures.digit

pub returns-in-None : goal.returns-in-None
returns-in-None c =
    zero_alone_read c.args.first c.args.source.now c.take_digit.new.source c.if-first-ne48.false
    c.in-None.ensures.digit
