use Rattle.std.proofs.lemmas.Option.{IfSome_then}
use Rattle.js_reader.proofs.simple.read_simple_spelling.Goals as goal

pub returns-then-begins_ascii_name-clause-spells : goal.returns-then-begins_ascii_name-clause-spells
returns-then-begins_ascii_name-clause-spells c = λ r ended none.
    IfSome_then c.read_simple_name.result (c.read_simple_name.ensures.spells ended) (λ kind spells. spells r)
