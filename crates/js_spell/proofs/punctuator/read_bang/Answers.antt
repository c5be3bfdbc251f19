use Rattle.std.proofs.Common.{Some, None, refl}
use Rattle.js_spell.proofs.FamilyFacts.{read_alone, read_equals, taken, not_taken}
use Rattle.js_spell.proofs.SequenceSteps.{behind}
use Rattle.js_kind.specs.declared.kind.Kind.TheVariants.{Neq, Neq2}
use Rattle.js_spell.specs.Families.{exclamation_marks}
use Rattle.js_spell.proofs.punctuator.read_bang.Goals as goal

pub returns-then-advance_if_ascii_eq-2-clause-longest : goal.returns-then-advance_if_ascii_eq-2-clause-longest
returns-then-advance_if_ascii_eq-2-clause-longest c = λ t line_has_ended reported.
    let first = behind 33 c.args.source.now c.next_char.new.self c.requires c.next_char.ensures.past in
    let second = c.if-advance_if_ascii_eq.ensures.cases in
    let third = c.if-advance_if_ascii_eq-2.ensures.cases in
    read_equals 33 exclamation_marks t line_has_ended c.args.source.now c.next_char.new.self c.next_char.new.self
    c.advance_if_ascii_eq.new.self c.advance_if_ascii_eq-then-advance_if_ascii_eq.new.self Neq None (Some Neq2) refl
    first.1 (refl, refl)
    (λ k e. cc) (taken 61 Neq c.next_char.new.self c.advance_if_ascii_eq.new.self second)
    (taken 61 Neq2 c.advance_if_ascii_eq.new.self c.advance_if_ascii_eq-then-advance_if_ascii_eq.new.self third)
    reported

pub returns-else-advance_if_ascii_eq-2-clause-longest : goal.returns-else-advance_if_ascii_eq-2-clause-longest
returns-else-advance_if_ascii_eq-2-clause-longest c = λ t line_has_ended reported.
    let first = behind 33 c.args.source.now c.next_char.new.self c.requires c.next_char.ensures.past in
    let second = c.if-advance_if_ascii_eq.ensures.cases in
    let third = c.if-advance_if_ascii_eq-2.ensures.cases in
    read_equals 33 exclamation_marks t line_has_ended c.args.source.now c.next_char.new.self c.next_char.new.self
    c.advance_if_ascii_eq.new.self c.advance_if_ascii_eq-then-advance_if_ascii_eq.new.self Neq None None refl first.1
    (refl, refl)
    (λ k e. cc) (taken 61 Neq c.next_char.new.self c.advance_if_ascii_eq.new.self second)
    (not_taken 61 Neq2 c.advance_if_ascii_eq.new.self c.advance_if_ascii_eq-then-advance_if_ascii_eq.new.self third.0
    third.1) reported

pub returns-else-advance_if_ascii_eq-clause-longest : goal.returns-else-advance_if_ascii_eq-clause-longest
returns-else-advance_if_ascii_eq-clause-longest c = λ t line_has_ended reported.
    let first = behind 33 c.args.source.now c.next_char.new.self c.requires c.next_char.ensures.past in
    let second = c.if-advance_if_ascii_eq.ensures.cases in
    read_alone 33 exclamation_marks t line_has_ended c.args.source.now c.next_char.new.self c.next_char.new.self
    c.advance_if_ascii_eq.new.self c.advance_if_ascii_eq.new.self None None None refl first.1 (refl, refl) (λ k e. cc)
    (not_taken 61 Neq c.next_char.new.self c.advance_if_ascii_eq.new.self second.0 second.1) (λ k e. cc)
    (refl, refl) reported
