use Rattle.std.proofs.Common.{sym, ◌∙◌}
use Rattle.js_spell.proofs.NameSteps.{escape_begins, plain_passed}
use Rattle.js_spell.proofs.name.pass_unescaped.Goals as goal

pub returns-then-begins_ascii-clause-passes : goal.returns-then-begins_ascii-clause-passes
returns-then-begins_ascii-clause-passes c =
    escape_begins c.args.source.now (sym c.begins_ascii.ensures ∙ c.if-begins_ascii.true)

pub returns-clause-passes : goal.returns-clause-passes
returns-clause-passes c =
    plain_passed c.args.source.now c.next_char.new.self c.skip_parts.new.source c.requires
    (sym c.begins_ascii.ensures ∙ c.if-begins_ascii.false) c.next_char.ensures.past c.skip_parts.ensures.text
    c.skip_parts.ensures.rest
