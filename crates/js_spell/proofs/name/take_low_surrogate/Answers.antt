use Rattle.std.proofs.Common.{ap, ◌∙◌}
use Rattle.js_grammar.specs.Name.{low_surrogate_escape}
use Rattle.js_grammar.proofs.NameItems.{no_low_mark, no_low_letter}
use Rattle.js_spell.proofs.NameSteps.{low_taken, low_broken}
use Rattle.js_spell.proofs.name.take_low_surrogate.Goals as goal

pub returns-then-not-advance_if_ascii_eq-clause-taken :
    goal.returns-then-not-advance_if_ascii_eq-clause-taken
returns-then-not-advance_if_ascii_eq-clause-taken c =
    no_low_mark _ c.if-not-advance_if_ascii_eq.ensures.cases.0

pub returns-then-not-advance_if_ascii_eq-2-clause-taken :
    goal.returns-then-not-advance_if_ascii_eq-2-clause-taken
returns-then-not-advance_if_ascii_eq-2-clause-taken c =
    ap low_surrogate_escape c.if-not-advance_if_ascii_eq.ensures.cases.here
    ∙ no_low_letter _ c.if-not-advance_if_ascii_eq-2.ensures.cases.0

pub returns-in-Some-clause-taken : goal.returns-in-Some-clause-taken
returns-in-Some-clause-taken c =
    low_taken c.args.source.now c.advance_if_ascii_eq.new.self c.advance_if_ascii_eq-2.new.self
    c.read_hex_digits.new.source c.in-Some.value c.is_low_surrogate.result
    c.if-not-advance_if_ascii_eq.ensures.cases c.if-not-advance_if_ascii_eq-2.ensures.cases c.in-Some.ensures.read
    c.is_low_surrogate.ensures

pub returns-in-None-clause-taken : goal.returns-in-None-clause-taken
returns-in-None-clause-taken c =
    low_broken c.args.source.now c.advance_if_ascii_eq.new.self c.advance_if_ascii_eq-2.new.self
    c.read_hex_digits.new.source
    c.if-not-advance_if_ascii_eq.ensures.cases c.if-not-advance_if_ascii_eq-2.ensures.cases c.in-None.ensures.read
