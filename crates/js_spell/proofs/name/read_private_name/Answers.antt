use Rattle.std.proofs.Common.{sym, ◌∙◌}
use Rattle.js_spell.proofs.BreakSteps.{on_err}
use Rattle.js_spell.proofs.NameReadings.{private_broken, private_spelled}
use Rattle.js_spell.proofs.name.read_private_name.Goals as goal

pub returns-then-begins_name-clause-ok : goal.returns-then-begins_name-clause-ok
returns-then-begins_name-clause-ok c =
    private_spelled c.args.source.now c.read_name.new.source c.args.errors.now c.read_name.new.errors c.args.token.now
    c.read_name.new.token c.in_ok-spelt.spelt (sym c.begins_name.ensures ∙ c.if-begins_name.true)
    c.in_ok-spelt.ensures.ok

pub returns-in_err-spelt-clause-err : goal.returns-in_err-spelt-clause-err
returns-in_err-spelt-clause-err c =
    on_err c.from_residual.result _
    (private_broken c.args.source.now c.read_name.new.source c.args.errors.now c.read_name.new.errors
    (sym c.begins_name.ensures ∙ c.if-begins_name.true) c.in_err-spelt.ensures.err)
