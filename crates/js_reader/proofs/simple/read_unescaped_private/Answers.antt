use Rattle.std.proofs.lemmas.Option.{IfSome_then}
use Rattle.js_reader.proofs.SimpleReadings.{simple_private}
use Rattle.js_reader.proofs.simple.read_unescaped_private.Goals as goal

pub returns-clause-spells : goal.returns-clause-spells
returns-clause-spells c = λ ended.
    IfSome_then c.read_unescaped_private_name.result c.read_unescaped_private_name.ensures.some
    (λ kind spells. simple_private ended c.args.source.now c.next_ascii.new.self
    c.read_unescaped_private_name.new.source kind c.next_ascii.ensures.reads spells)
