use Rattle.js_spell.proofs.UnseparatedNumbers.{decimal_cut}
use Rattle.js_spell.proofs.unseparated_number.read_decimal.Goals as goal

pub returns-clause-reads : goal.returns-clause-reads
returns-clause-reads c = λ end errors.
    let follows = c.read_behind_integer.ensures.follows end in
    decimal_cut c.args.source.now c.pass_integer.new.source c.read_behind_integer.new.source errors
    c.read_behind_integer.result (c.pass_integer.ensures.items follows) (c.pass_integer.ensures.reads follows errors)
    (c.read_behind_integer.ensures.reads end errors)
