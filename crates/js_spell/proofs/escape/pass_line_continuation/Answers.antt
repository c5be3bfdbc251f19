use Rattle.js_spell.proofs.DecodeSteps.{return_continues, other_continues}
use Rattle.js_spell.proofs.escape.pass_line_continuation.Goals as goal

pub returns-then-c-eq13 : goal.returns-then-c-eq13
returns-then-c-eq13 c =
    return_continues c.advance_if_ascii_eq.result c.args.c c.args.source.now c.advance_if_ascii_eq.new.self
    c.if-c-eq13.true c.advance_if_ascii_eq.ensures.cases

pub returns-else-c-eq13 : goal.returns-else-c-eq13
returns-else-c-eq13 c = other_continues c.args.c c.args.source.now c.if-c-eq13.false
