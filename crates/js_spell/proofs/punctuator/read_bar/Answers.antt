use Rattle.std.proofs.Common.{Some, None, refl}
use Rattle.js_kind.specs.declared.kind.Kind.TheVariants.{Pipe2, Pipe2Eq, PipeEq, PipeGt}
use Rattle.js_spell.specs.Families.{vertical_lines}
use Rattle.js_spell.proofs.FamilyFacts.{read_alone, read_equals, read_twice, taken, not_taken}
use Rattle.js_spell.proofs.SequenceSteps.{behind}
use Rattle.js_spell.proofs.punctuator.read_bar.Goals as goal

pub returns-then-advance_if_ascii_eq-2-clause-longest : goal.returns-then-advance_if_ascii_eq-2-clause-longest
returns-then-advance_if_ascii_eq-2-clause-longest c = λ t line_has_ended reported.
    let first = behind 124 c.args.source.now c.next_char.new.self c.requires c.next_char.ensures.past in
    let second = c.if-advance_if_ascii_eq.ensures.cases in
    let third = c.if-advance_if_ascii_eq-2.ensures.cases in
    read_twice 124 vertical_lines t line_has_ended c.args.source.now c.next_char.new.self
    c.advance_if_ascii_eq.new.self c.advance_if_ascii_eq-then-advance_if_ascii_eq.new.self Pipe2 (Some Pipe2Eq) refl
    first.1
    (taken 124 Pipe2 c.next_char.new.self c.advance_if_ascii_eq.new.self second)
    (taken 61 Pipe2Eq c.advance_if_ascii_eq.new.self c.advance_if_ascii_eq-then-advance_if_ascii_eq.new.self third)
    reported

pub returns-else-advance_if_ascii_eq-2-clause-longest : goal.returns-else-advance_if_ascii_eq-2-clause-longest
returns-else-advance_if_ascii_eq-2-clause-longest c = λ t line_has_ended reported.
    let first = behind 124 c.args.source.now c.next_char.new.self c.requires c.next_char.ensures.past in
    let second = c.if-advance_if_ascii_eq.ensures.cases in
    let third = c.if-advance_if_ascii_eq-2.ensures.cases in
    read_twice 124 vertical_lines t line_has_ended c.args.source.now c.next_char.new.self
    c.advance_if_ascii_eq.new.self c.advance_if_ascii_eq-then-advance_if_ascii_eq.new.self Pipe2 None refl first.1
    (taken 124 Pipe2 c.next_char.new.self c.advance_if_ascii_eq.new.self second)
    (not_taken 61 Pipe2Eq c.advance_if_ascii_eq.new.self c.advance_if_ascii_eq-then-advance_if_ascii_eq.new.self
    third.0 third.1) reported

pub returns-then-advance_if_ascii_eq-3-clause-longest : goal.returns-then-advance_if_ascii_eq-3-clause-longest
returns-then-advance_if_ascii_eq-3-clause-longest c = λ t line_has_ended reported.
    let first = behind 124 c.args.source.now c.next_char.new.self c.requires c.next_char.ensures.past in
    let second = c.if-advance_if_ascii_eq.ensures.cases in
    let third = c.if-advance_if_ascii_eq-3.ensures.cases in
    read_equals 124 vertical_lines t line_has_ended c.args.source.now c.next_char.new.self
    c.advance_if_ascii_eq.new.self c.advance_if_ascii_eq-else-advance_if_ascii_eq.new.self
    c.advance_if_ascii_eq-else-advance_if_ascii_eq.new.self PipeEq None None refl first.1
    (not_taken 124 Pipe2 c.next_char.new.self c.advance_if_ascii_eq.new.self second.0 second.1) (λ k e. cc)
    (taken 61 PipeEq c.advance_if_ascii_eq.new.self c.advance_if_ascii_eq-else-advance_if_ascii_eq.new.self third)
    (refl, refl) reported

pub returns-then-advance_if_ascii_eq-4-clause-longest : goal.returns-then-advance_if_ascii_eq-4-clause-longest
returns-then-advance_if_ascii_eq-4-clause-longest c = λ t line_has_ended reported.
    let first = behind 124 c.args.source.now c.next_char.new.self c.requires c.next_char.ensures.past in
    let second = c.if-advance_if_ascii_eq.ensures.cases in
    let third = c.if-advance_if_ascii_eq-3.ensures.cases in
    let fourth = c.if-advance_if_ascii_eq-4.ensures.cases in
    read_alone 124 vertical_lines t line_has_ended c.args.source.now c.next_char.new.self
    c.advance_if_ascii_eq.new.self c.advance_if_ascii_eq-else-advance_if_ascii_eq.new.self
    c.advance_if_ascii_eq-else-advance_if_ascii_eq-3.new.self None None (Some PipeGt) refl first.1
    (not_taken 124 Pipe2 c.next_char.new.self c.advance_if_ascii_eq.new.self second.0 second.1) (λ k e. cc)
    (not_taken 61 PipeEq c.advance_if_ascii_eq.new.self c.advance_if_ascii_eq-else-advance_if_ascii_eq.new.self third.0
    third.1) (λ k e. cc) (taken 62 PipeGt c.advance_if_ascii_eq-else-advance_if_ascii_eq.new.self
    c.advance_if_ascii_eq-else-advance_if_ascii_eq-3.new.self fourth) reported

pub returns-else-advance_if_ascii_eq-4-clause-longest : goal.returns-else-advance_if_ascii_eq-4-clause-longest
returns-else-advance_if_ascii_eq-4-clause-longest c = λ t line_has_ended reported.
    let first = behind 124 c.args.source.now c.next_char.new.self c.requires c.next_char.ensures.past in
    let second = c.if-advance_if_ascii_eq.ensures.cases in
    let third = c.if-advance_if_ascii_eq-3.ensures.cases in
    let fourth = c.if-advance_if_ascii_eq-4.ensures.cases in
    read_alone 124 vertical_lines t line_has_ended c.args.source.now c.next_char.new.self
    c.advance_if_ascii_eq.new.self c.advance_if_ascii_eq-else-advance_if_ascii_eq.new.self
    c.advance_if_ascii_eq-else-advance_if_ascii_eq-3.new.self None None None refl first.1
    (not_taken 124 Pipe2 c.next_char.new.self c.advance_if_ascii_eq.new.self second.0 second.1) (λ k e. cc)
    (not_taken 61 PipeEq c.advance_if_ascii_eq.new.self c.advance_if_ascii_eq-else-advance_if_ascii_eq.new.self third.0
    third.1) (λ k e. cc) (not_taken 62 PipeGt c.advance_if_ascii_eq-else-advance_if_ascii_eq.new.self
    c.advance_if_ascii_eq-else-advance_if_ascii_eq-3.new.self fourth.0 fourth.1) reported
