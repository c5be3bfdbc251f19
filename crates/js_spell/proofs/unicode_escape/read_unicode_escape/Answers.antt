use Rattle.js_spell.proofs.EscapeSteps.{braced_escape_read, plain_escape_read}
use Rattle.js_spell.proofs.unicode_escape.read_unicode_escape.Goals as goal

pub returns-then-advance_if_ascii_eq-clause-read : goal.returns-then-advance_if_ascii_eq-clause-read
returns-then-advance_if_ascii_eq-clause-read c =
    braced_escape_read c.args.source.now c.advance_if_ascii_eq.new.self c.read_braced_digits.new.source
    c.read_braced_digits.result c.if-advance_if_ascii_eq.ensures.cases c.read_braced_digits.ensures.read

pub returns-clause-read : goal.returns-clause-read
returns-clause-read c =
    let none = c.if-advance_if_ascii_eq.ensures.cases in
    plain_escape_read c.args.source.now c.advance_if_ascii_eq.new.self c.read_hex_digits.new.source
    c.read_hex_digits.result none.0 none.1 c.read_hex_digits.ensures.read
