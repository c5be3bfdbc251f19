use Rattle.std.proofs.Common.{◌∙◌, ap, sym, refl}
use Rattle.js_grammar.specs.Punctuators.{unrestricted}
use Rattle.js_grammar.proofs.LongestPunctuators.{dot, listed, longest, none_dot}
use Rattle.js_kind.specs.declared.kind.Kind.TheVariants.{Dot3}
use Rattle.js_source.specs.Source.{rest}
use Rattle.js_source.proofs.Places.{back_at}
use Rattle.js_spell.proofs.SequenceSteps.{behind}
use Rattle.js_spell.proofs.punctuator.read_dot.Goals as goal

pub returns-then-advance_if_sequence : goal.returns-then-advance_if_sequence
returns-then-advance_if_sequence c = λ t line_has_ended.
    let first = behind 46 c.args.source.now c.next_char.new.self c.requires c.next_char.ensures.past in
    let dots = c.if-advance_if_sequence.ensures in
    (dots.0 ∙ first.0, rw (first.1, dots.1) (longest t line_has_ended (unrestricted Dot3) _ (listed refl) refl refl))

pub returns-then-is_digit_next : goal.returns-then-is_digit_next
returns-then-is_digit_next c = λ t line_has_ended.
    let first = behind 46 c.args.source.now c.next_char.new.self c.requires c.next_char.ensures.past in
    let dots = c.if-advance_if_sequence.ensures in
    let digit = sym c.is_digit_next.ensures ∙ c.if-is_digit_next.true in (
      back_at c.args.source.now c.advance_if_sequence.new.source c.set_position.new.self c.position-start.result
          c.set_position.ensures (ap (λ s. s.text) dots.1 ∙ first.0) c.position-start.ensures.place,
      rw first.1 (none_dot t line_has_ended (rest c.next_char.new.self) (rw dots.1 at digit)),
    )

pub returns-else-is_digit_next : goal.returns-else-is_digit_next
returns-else-is_digit_next c = λ t line_has_ended.
    let first = behind 46 c.args.source.now c.next_char.new.self c.requires c.next_char.ensures.past in
    let dots = c.if-advance_if_sequence.ensures in
    let digit = sym c.is_digit_next.ensures ∙ c.if-is_digit_next.false in
    (ap (λ s. s.text) dots.1 ∙ first.0, rw (first.1, dots.1) (dot t line_has_ended _ dots.0 (rw dots.1 at digit)))
