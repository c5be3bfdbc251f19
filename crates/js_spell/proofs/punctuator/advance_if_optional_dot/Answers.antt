use Rattle.std.proofs.Common.{rules}
use Rattle.js_source.proofs.Places.{back_at}
use Rattle.js_spell.proofs.punctuator.advance_if_optional_dot.Goals as goal

pub returns-else-not-is_digit_next-clause-answer : goal.returns-else-not-is_digit_next-clause-answer
returns-else-not-is_digit_next-clause-answer c =
    let dot = c.if-advance_if_ascii_eq.ensures.cases in (
      search rules,
      back_at c.args.source.now c.advance_if_ascii_eq.new.self c.set_position.new.self c.position-start.result
          c.set_position.ensures dot.text c.position-start.ensures.place,
    )
