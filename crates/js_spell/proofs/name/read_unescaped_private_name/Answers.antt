use Rattle.std.proofs.Common.{inl}
use Rattle.js_source.specs.Source.{rest}
use Rattle.js_spell.proofs.NameReadings.{unescaped_private, start_begins, no_start_begins}
use Rattle.js_spell.proofs.name.read_unescaped_private_name.Goals as goal

pub read_unescaped_name-requires-clause-begun : goal.read_unescaped_name-requires-clause-begun
read_unescaped_name-requires-clause-begun c =
    let start = c.if-not-is_unescaped_start.ensures in
    start_begins c.in_ok-b.b (rest c.args.source.now) start.0 c.in_ok-b.ensures.some start.1

pub returns-clause-some : goal.returns-clause-some
returns-clause-some c =
    let start = c.if-not-is_unescaped_start.ensures in
    unescaped_private c.args.source.now c.read_unescaped_name.new.source c.in_ok-read_unescaped_name.field-0
    (start_begins c.in_ok-b.b (rest c.args.source.now) start.0 c.in_ok-b.ensures.some start.1)
    c.in_ok-read_unescaped_name.ensures.some

pub returns-then-not-is_unescaped_start-clause-none : goal.returns-then-not-is_unescaped_start-clause-none
returns-then-not-is_unescaped_start-clause-none c =
    inl
    (no_start_begins c.in_ok-b.b (rest c.args.source.now) c.in_ok-b.ensures.some c.if-not-is_unescaped_start.ensures)
