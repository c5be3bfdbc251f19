use Rattle.js_spell.proofs.OrdinaryCharacters.{passes_then, passes_run, passes_past, ordinary_wide, stops_at}
use Rattle.js_spell.proofs.ordinary.pass_ordinary.Goals as goal

pub returns-in-None-clause-passes : goal.returns-in-None-clause-passes
returns-in-None-clause-passes c =
    passes_then c.args.literal c.args.source.now c.characters.source c.pass_ascii.new.self
    c.characters.invariant
    (passes_run c.args.literal c.table_of-table.result.now c.characters.source c.pass_ascii.new.self
    c.table_of-table.ensures c.pass_ascii.ensures.text c.pass_ascii.ensures.run)

pub returns-then-b-lt128-clause-passes : goal.returns-then-b-lt128-clause-passes
returns-then-b-lt128-clause-passes c =
    passes_then c.args.literal c.args.source.now c.characters.source c.pass_ascii.new.self
    c.characters.invariant
    (passes_run c.args.literal c.table_of-table.result.now c.characters.source c.pass_ascii.new.self
    c.table_of-table.ensures c.pass_ascii.ensures.text c.pass_ascii.ensures.run)

pub returns-then-b-lt128-clause-some : goal.returns-then-b-lt128-clause-some
returns-then-b-lt128-clause-some c =
    stops_at c.args.literal c.table_of-table.result.now c.in-Some.b _ c.table_of-table.ensures c.if-b-lt128.true
    c.in-Some.ensures.some c.pass_ascii.ensures.stops

pub characters-preserved : goal.characters-preserved
characters-preserved c =
    let mid = c.pass_ascii.new.self in
    passes_then c.args.literal c.args.source.now c.characters.source c.next_char.new.self
    c.characters.invariant
    (passes_then c.args.literal c.characters.source mid c.next_char.new.self
    (passes_run c.args.literal c.table_of-table.result.now c.characters.source mid
    c.table_of-table.ensures c.pass_ascii.ensures.text c.pass_ascii.ensures.run)
    (passes_past c.args.literal mid c.next_char.new.self c.next_char.ensures.past
    (ordinary_wide c.args.literal c.in-Some.b _ c.if-b-lt128.false c.in-Some.ensures.some)))
