use Rattle.std.proofs.Common.{sym}
use Rattle.js_kind.specs.Digits.{is_digit_of}
use Rattle.js_spell.proofs.DecodeSteps.{template_digit_read, octal_digit_read, other_digit_itself}
use Rattle.js_spell.proofs.escape.read_digit_escape.Goals as goal

pub returns-then-in_template : goal.returns-then-in_template
returns-then-in_template c =
    template_digit_read c.args.in_template c.args.first c.args.source.now c.read_digit_in_template.new.source
    c.read_digit_in_template.result c.if-in_template.true c.read_digit_in_template.ensures

pub read_octal_escape-requires : goal.read_octal_escape-requires
unfolding is_digit_of
read_octal_escape-requires c = sym c.if-is_digit.ensures.value

pub returns-then-is_digit : goal.returns-then-is_digit
unfolding is_digit_of
returns-then-is_digit c =
    octal_digit_read c.args.in_template c.args.first c.args.source.now c.read_octal_escape.new.source
    c.read_octal_escape.result c.if-in_template.false (sym c.if-is_digit.ensures.value) c.read_octal_escape.ensures

pub returns : goal.returns
unfolding is_digit_of
returns c =
    other_digit_itself c.args.in_template c.args.first c.single_character.result c.args.source.now
    c.if-in_template.false
    (sym c.if-is_digit.ensures.value) c.single_character.ensures.meaning c.single_character.ensures.small
