use Rattle.std.proofs.Common.{None, refl}
use Rattle.js_spell.proofs.FamilyFacts.{read_alone, read_equals, taken, not_taken}
use Rattle.js_spell.proofs.SequenceSteps.{behind}
use Rattle.js_spell.specs.Families.{assigned}
use Rattle.js_spell.proofs.punctuator.read_assigned.Goals as goal

pub returns-then-advance_if_ascii_eq-clause-longest : goal.returns-then-advance_if_ascii_eq-clause-longest
returns-then-advance_if_ascii_eq-clause-longest c = λ t line_has_ended reported.
    let first = behind c.args.a c.args.source.now c.next_char.new.self c.requires.next c.next_char.ensures.past in
    let second = c.if-advance_if_ascii_eq.ensures.cases in
    read_equals c.args.a
    (assigned c.args.kinds) t line_has_ended c.args.source.now c.next_char.new.self c.next_char.new.self
    c.advance_if_ascii_eq.new.self c.advance_if_ascii_eq.new.self c.args.kinds.equals None None c.requires.family
    first.1 (refl, refl)
    (λ k e. cc) (taken 61 c.args.kinds.equals c.next_char.new.self c.advance_if_ascii_eq.new.self second)
    (refl, refl) reported

pub returns-else-advance_if_ascii_eq-clause-longest : goal.returns-else-advance_if_ascii_eq-clause-longest
returns-else-advance_if_ascii_eq-clause-longest c = λ t line_has_ended reported.
    let first = behind c.args.a c.args.source.now c.next_char.new.self c.requires.next c.next_char.ensures.past in
    let second = c.if-advance_if_ascii_eq.ensures.cases in
    read_alone c.args.a
    (assigned c.args.kinds) t line_has_ended c.args.source.now c.next_char.new.self c.next_char.new.self
    c.advance_if_ascii_eq.new.self c.advance_if_ascii_eq.new.self None None None c.requires.family first.1 (refl, refl)
    (λ k e. cc)
    (not_taken 61 c.args.kinds.equals c.next_char.new.self c.advance_if_ascii_eq.new.self second.0 second.1) (λ k e. cc)
    (refl, refl) reported
