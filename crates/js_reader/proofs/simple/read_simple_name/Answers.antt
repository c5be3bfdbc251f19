use Rattle.std.proofs.lemmas.Option.{IfSome_then}
use Rattle.js_reader.proofs.SimpleReadings.{name_begins, simple_name, start_is_plain}
use Rattle.js_reader.proofs.simple.read_simple_name.Goals as goal

pub read_unescaped_name_by-requires-clause-begun : goal.read_unescaped_name_by-requires-clause-begun
read_unescaped_name_by-requires-clause-begun c =
    name_begins c.args.b _ c.requires.ascii c.requires.next c.requires.begun

pub read_unescaped_name_by-requires-clause-unescaped : goal.read_unescaped_name_by-requires-clause-unescaped
read_unescaped_name_by-requires-clause-unescaped c = start_is_plain c.args.b c.requires.begun

pub returns-clause-spells : goal.returns-clause-spells
returns-clause-spells c = λ ended.
    IfSome_then c.read_unescaped_name_by.result c.read_unescaped_name_by.ensures.some
    (λ kind spells. simple_name ended c.args.source.now c.read_unescaped_name_by.new.source kind
    (name_begins c.args.b _ c.requires.ascii c.requires.next c.requires.begun) spells)
