use Rattle.js_spell.proofs.FamilyFacts.{read_only_one}
use Rattle.js_spell.proofs.SequenceSteps.{behind}
use Rattle.js_spell.proofs.punctuator.read_only.Goals as goal

pub returns-clause-longest : goal.returns-clause-longest
returns-clause-longest c = λ t line_has_ended reported.
    let first = behind c.args.a c.args.source.now c.next_char.new.self c.requires.next c.next_char.ensures.past in
    read_only_one c.args.a c.args.kind t line_has_ended c.args.source.now c.next_char.new.self c.requires.family first.1
    reported
