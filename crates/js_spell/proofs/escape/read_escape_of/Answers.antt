use Rattle.std.proofs.Common.{sym}
use Rattle.std.proofs.lemmas.Bool.{ne_eqb, eq-eqb}
use Rattle.js_kind.specs.Digits.{is_digit_of}
use Rattle.js_source.specs.Source.{rest}
use Rattle.js_grammar.proofs.EscapeCases.{escape_of_line, escape_by_unit, escape_by_code_point, escape_by_digit}
use Rattle.js_grammar.proofs.EscapeCases.{escape_of_character}
use Rattle.js_spell.proofs.DecodeSteps.{known_read, character_read}
use Rattle.js_spell.proofs.escape.read_escape_of.Goals as goal

pub returns-then-is_line_terminator : goal.returns-then-is_line_terminator
returns-then-is_line_terminator c =
    known_read _ _ c.args.source.now c.pass_line_continuation.new.source c.pass_line_continuation.result
    (escape_of_line c.args.in_template c.args.first (rest c.args.source.now) (sym c.if-is_line_terminator.ensures))
    c.pass_line_continuation.ensures

pub returns-then-first-eq120 : goal.returns-then-first-eq120
returns-then-first-eq120 c =
    known_read _ _ c.args.source.now c.read_hex_escape.new.source c.read_hex_escape.result
    (escape_by_unit c.args.in_template c.args.first (rest c.args.source.now) (sym c.if-is_line_terminator.ensures)
    (eq-eqb c.args.first 120 c.if-first-eq120.true)) c.read_hex_escape.ensures

pub returns-then-first-eq117 : goal.returns-then-first-eq117
returns-then-first-eq117 c =
    known_read _ _ c.args.source.now c.read_code_point_escape.new.source c.read_code_point_escape.result
    (escape_by_code_point c.args.in_template c.args.first (rest c.args.source.now)
    (sym c.if-is_line_terminator.ensures) (ne_eqb c.args.first 120 c.if-first-eq120.false)
    (eq-eqb c.args.first 117 c.if-first-eq117.true)) c.read_code_point_escape.ensures

pub read_digit_escape-requires : goal.read_digit_escape-requires
unfolding is_digit_of
read_digit_escape-requires c = sym c.if-is_digit.ensures.value

pub returns-then-is_digit : goal.returns-then-is_digit
unfolding is_digit_of
returns-then-is_digit c =
    known_read _ _ c.args.source.now c.read_digit_escape.new.source c.read_digit_escape.result
    (escape_by_digit c.args.in_template c.args.first (rest c.args.source.now) (sym c.if-is_line_terminator.ensures)
    (ne_eqb c.args.first 120 c.if-first-eq120.false) (ne_eqb c.args.first 117 c.if-first-eq117.false)
    (sym c.if-is_digit.ensures.value)) c.read_digit_escape.ensures

pub returns : goal.returns
unfolding is_digit_of
returns c =
    known_read _ _ c.args.source.now c.args.source.now _
    (escape_of_character c.args.in_template c.args.first (rest c.args.source.now) (sym c.if-is_line_terminator.ensures)
    (ne_eqb c.args.first 120 c.if-first-eq120.false) (ne_eqb c.args.first 117 c.if-first-eq117.false)
    (sym c.if-is_digit.ensures.value))
    (character_read c.args.first c.single_character.result c.args.source.now c.single_character.ensures.meaning
    c.single_character.ensures.small)
