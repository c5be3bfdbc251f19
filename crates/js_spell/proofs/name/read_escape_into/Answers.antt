use Rattle.std.proofs.Common.{arith, refl}
use Rattle.js_spell.specs.Name.{items_told}
use Rattle.js_spell.specs.declared.name.Position.TheVariants.{Later}
use Rattle.js_spell.proofs.BreakSteps.{broken_first, on_err, unreported}
use Rattle.js_spell.proofs.NameReadings.{escape_broken}
use Rattle.js_spell.proofs.name.read_escape_into.Goals as goal

pub returns-in_err-c-clause-err : goal.returns-in_err-c-clause-err
returns-in_err-c-clause-err c =
    on_err c.from_residual.result _
    (broken_first (items_told c.args.position c.args.source.now) c.args.source.now c.read_escape.new.source
    c.args.errors.now c.read_escape.new.errors c.in_err-c.ensures.err)

pub returns-in_err-push-clause-err : goal.returns-in_err-push-clause-err
returns-in_err-push-clause-err c =
    let new = c.read_escape.new.source in
    let after = c.read_escape.new.errors in
    on_err c.from_residual-in_err-push.result _
    (escape_broken c.args.position c.args.source.now new new c.args.errors.now after after c.in_ok-c.field-0
    c.in_ok-c.ensures.ok (unreported (items_told Later new) new new after after refl (omega arith) refl))
