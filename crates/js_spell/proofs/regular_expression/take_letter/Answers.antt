use Rattle.std.proofs.Common.{sym, ◌∙◌}
use Rattle.js_spell.proofs.FlagSteps.{letter_taken, low_letter}
use Rattle.js_spell.proofs.regular_expression.take_letter.Goals as goal

pub returns-clause-some : goal.returns-clause-some
returns-clause-some c =
    let low = low_letter c.name_parts.result.now c.in_ok-b.b c.name_parts.ensures c.if-not-name_parts-b.false in
    letter_taken c.args.source.now c.next_char.new.self c.in_ok-b.b low
    (sym (c.name_parts.ensures.tells c.in_ok-b.b low) ∙ c.if-not-name_parts-b.false) c.in_ok-b.ensures.some
    c.next_char.ensures.past
