use Rattle.std.proofs.Common.{◌∙◌, ap, refl}
use Rattle.js_grammar.specs.Punctuators.{unrestricted, slash}
use Rattle.js_grammar.proofs.LongestPunctuators.{listed, longest, none_slash}
use Rattle.js_kind.specs.declared.kind.Kind.TheVariants.{SlashEq}
use Rattle.js_source.specs.Source.{rest}
use Rattle.js_source.proofs.Places.{back_at}
use Rattle.js_spell.proofs.SequenceSteps.{behind}
use Rattle.js_spell.proofs.punctuator.read_slash.Goals as goal

pub returns-then-advance_if_ascii_eq : goal.returns-then-advance_if_ascii_eq
returns-then-advance_if_ascii_eq c = λ t line_has_ended.
    let first = behind 47 c.args.source.now c.next_char.new.self c.requires c.next_char.ensures.past in
    let second = c.if-advance_if_ascii_eq.ensures.cases in (
      second.text ∙ first.0,
      rw (first.1, second.here) (longest t line_has_ended (unrestricted SlashEq) _ (listed refl) refl refl),
    )

pub returns-then-advance_if_ascii_eq-2 : goal.returns-then-advance_if_ascii_eq-2
returns-then-advance_if_ascii_eq-2 c = λ t line_has_ended.
    let first = behind 47 c.args.source.now c.next_char.new.self c.requires c.next_char.ensures.past in
    let second = c.if-advance_if_ascii_eq.ensures.cases in
    let third = c.if-advance_if_ascii_eq-2.ensures.cases in (
      back_at c.args.source.now c.advance_if_ascii_eq-else-advance_if_ascii_eq.new.self c.set_position.new.self c.position-start.result
          c.set_position.ensures (third.text ∙ ap (λ s. s.text) second.1 ∙ first.0) c.position-start.ensures.place,
      rw (first.1, ← second.1, third.here)
          (none_slash t line_has_ended (rest c.advance_if_ascii_eq-else-advance_if_ascii_eq.new.self)),
    )

pub returns-else-advance_if_ascii_eq-2 : goal.returns-else-advance_if_ascii_eq-2
returns-else-advance_if_ascii_eq-2 c = λ t line_has_ended.
    let first = behind 47 c.args.source.now c.next_char.new.self c.requires c.next_char.ensures.past in
    let second = c.if-advance_if_ascii_eq.ensures.cases in
    let third = c.if-advance_if_ascii_eq-2.ensures.cases in (
      ap (λ s. s.text) (third.1 ∙ second.1)
          ∙ first.0,
      rw (first.1, third.1, second.1)
          (longest t line_has_ended slash _ (listed refl) (rw second.1 at third.0) (rw second.0 refl)),
    )
