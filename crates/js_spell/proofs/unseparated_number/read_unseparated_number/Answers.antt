use Rattle.js_spell.proofs.UnseparatedNumbers.{unseparated_number}
use Rattle.js_spell.proofs.unseparated_number.read_unseparated_number.Goals as goal

pub returns-clause-some : goal.returns-clause-some
returns-clause-some c = λ errors token.
    let end = c.if-not-ends_number.ensures in
    unseparated_number c.args.source.now c.read_items-kind.new.source errors token c.read_items-kind.result
    (c.read_items-kind.ensures.reads end errors) end
