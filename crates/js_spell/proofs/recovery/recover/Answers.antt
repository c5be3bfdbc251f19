use Rattle.std.proofs.Common.{◌∙◌, ◌||◌, ap}
use Rattle.js_spell.proofs.RecoverSteps.{unterminated}
use Rattle.js_spell.proofs.recovery.recover.Goals as goal

pub returns-then-advance_if_sequence : goal.returns-then-advance_if_sequence
returns-then-advance_if_sequence c =
    let d =
    unterminated c.args.line_has_ended c.args.source.now c.advance_if_sequence.new.source
    c.skip_to_end-has_line_end.new.source c.either.result c.offset-start.result c.offset.result
    c.if-advance_if_sequence.ensures c.skip_to_end-has_line_end.ensures.end c.skip_to_end-has_line_end.ensures.nothing
    (c.either.ensures ∙ ap (λ b. b || c.args.line_has_ended) c.skip_to_end-has_line_end.ensures.line_end)
    c.offset-start.ensures.place c.offset.ensures.place in
    rw c.new-span.ensures d
