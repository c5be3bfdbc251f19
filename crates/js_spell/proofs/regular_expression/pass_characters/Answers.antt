use Rattle.std.proofs.Common.{sym}
use Rattle.js_spell.proofs.ExpressionSteps.{passes_run, passes_then, passes_wide}
use Rattle.js_spell.proofs.regular_expression.pass_characters.Goals as goal

pub returns-in-None-clause-passes : goal.returns-in-None-clause-passes
returns-in-None-clause-passes c =
    passes_then c.args.within c.args.source.now c.characters.source c.pass_ascii.new.self
    c.characters.invariant
    (passes_run c.args.within c.table_of-table.result.now c.characters.source c.pass_ascii.new.self
    c.table_of-table.ensures c.pass_ascii.ensures.text c.pass_ascii.ensures.run)

pub returns-then-b-lt128-clause-passes : goal.returns-then-b-lt128-clause-passes
returns-then-b-lt128-clause-passes c =
    passes_then c.args.within c.args.source.now c.characters.source c.pass_ascii.new.self
    c.characters.invariant
    (passes_run c.args.within c.table_of-table.result.now c.characters.source c.pass_ascii.new.self
    c.table_of-table.ensures c.pass_ascii.ensures.text c.pass_ascii.ensures.run)

pub returns-then-begins_line_end-clause-passes : goal.returns-then-begins_line_end-clause-passes
returns-then-begins_line_end-clause-passes c =
    passes_then c.args.within c.args.source.now c.characters.source c.pass_ascii.new.self
    c.characters.invariant
    (passes_run c.args.within c.table_of-table.result.now c.characters.source c.pass_ascii.new.self
    c.table_of-table.ensures c.pass_ascii.ensures.text c.pass_ascii.ensures.run)

pub characters-preserved : goal.characters-preserved
characters-preserved c =
    let mid = c.pass_ascii.new.self in
    passes_then c.args.within c.args.source.now c.characters.source c.next_char.new.self
    c.characters.invariant
    (passes_then c.args.within c.characters.source mid c.next_char.new.self
    (passes_run c.args.within c.table_of-table.result.now c.characters.source mid
    c.table_of-table.ensures c.pass_ascii.ensures.text c.pass_ascii.ensures.run)
    (passes_wide c.args.within c.in-Some.b mid c.next_char.new.self c.if-b-lt128.false c.in-Some.ensures.some
    (sym c.if-begins_line_end.ensures) c.next_char.ensures.past c.next_char.ensures.onward).0)
