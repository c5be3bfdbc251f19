use Rattle.std.proofs.Common.{refl}
use Rattle.js_grammar.specs.Punctuators.{unrestricted, before_no_digit}
use Rattle.js_grammar.proofs.LongestPunctuators.{listed, longest, question}
use Rattle.js_kind.specs.declared.kind.Kind.TheVariants.{Question2, Question2Eq, QuestionDot}
use Rattle.js_spell.proofs.SequenceSteps.{behind}
use Rattle.js_spell.proofs.punctuator.read_question.Goals as goal

pub returns-then-advance_if_ascii_eq-2-clause-longest : goal.returns-then-advance_if_ascii_eq-2-clause-longest
returns-then-advance_if_ascii_eq-2-clause-longest c = λ t line_has_ended.
    let first = behind 63 c.args.source.now c.next_char.new.self c.requires c.next_char.ensures.past in
    let second = c.if-advance_if_ascii_eq.ensures.cases in
    let third = c.if-advance_if_ascii_eq-2.ensures.cases in
    rw (first.1, second.here, third.here) (longest t line_has_ended (unrestricted Question2Eq) _
    (listed refl) refl refl)

pub returns-else-advance_if_ascii_eq-2-clause-longest : goal.returns-else-advance_if_ascii_eq-2-clause-longest
returns-else-advance_if_ascii_eq-2-clause-longest c = λ t line_has_ended.
    let first = behind 63 c.args.source.now c.next_char.new.self c.requires c.next_char.ensures.past in
    let second = c.if-advance_if_ascii_eq.ensures.cases in
    let third = c.if-advance_if_ascii_eq-2.ensures.cases in
    rw (first.1, second.here, third.1)
    (longest t line_has_ended (unrestricted Question2) _ (listed refl) refl (rw third.0 refl))

pub returns-then-advance_if_optional_dot-clause-longest : goal.returns-then-advance_if_optional_dot-clause-longest
returns-then-advance_if_optional_dot-clause-longest c = λ t line_has_ended.
    let first = behind 63 c.args.source.now c.next_char.new.self c.requires c.next_char.ensures.past in
    let second = c.if-advance_if_ascii_eq.ensures.cases in
    let dot = c.if-advance_if_optional_dot.ensures.answer in
    rw (first.1, ← second.1, dot.0) (longest t line_has_ended (before_no_digit QuestionDot) _ (listed refl) dot.1 refl)

pub returns-else-advance_if_optional_dot-clause-longest : goal.returns-else-advance_if_optional_dot-clause-longest
returns-else-advance_if_optional_dot-clause-longest c = λ t line_has_ended.
    let first = behind 63 c.args.source.now c.next_char.new.self c.requires c.next_char.ensures.past in
    let second = c.if-advance_if_ascii_eq.ensures.cases in
    let dot = c.if-advance_if_optional_dot.ensures.answer in
    rw (first.1, dot.1, second.1) (question t line_has_ended _ second.0 (rw second.1 at dot.0))
