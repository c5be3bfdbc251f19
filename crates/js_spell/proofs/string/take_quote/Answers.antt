use Rattle.js_spell.proofs.SpellSteps.{double_taken, single_taken}
use Rattle.js_spell.proofs.string.take_quote.Goals as goal

pub returns-then-advance_if_ascii_eq : goal.returns-then-advance_if_ascii_eq
returns-then-advance_if_ascii_eq c =
    double_taken c.args.source.now c.advance_if_ascii_eq.new.self c.if-advance_if_ascii_eq.ensures.cases

pub returns : goal.returns
returns c =
    let none = c.if-advance_if_ascii_eq.ensures.cases in
    single_taken c.args.source.now c.advance_if_ascii_eq.new.self c.next_char.new.self c.requires none.0 none.1
    c.next_char.ensures.past
