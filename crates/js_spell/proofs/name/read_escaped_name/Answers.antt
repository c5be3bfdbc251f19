use Rattle.std.proofs.Common.{arith, refl, true}
use Rattle.std.specs.Prelude.{string_bytes}
use Rattle.js_spell.specs.Name.{items_told}
use Rattle.js_spell.specs.declared.name.Position.TheVariants.{Later}
use Rattle.js_spell.proofs.BreakSteps.{on_err, unreported}
use Rattle.js_spell.proofs.NameReadings.{items_broken}
use Rattle.js_spell.proofs.name.read_escaped_name.Goals as goal

pub returns-clause-err : goal.returns-clause-err
returns-clause-err c =
    let new = c.decode_name.new.source in
    let after = c.decode_name.new.errors in
    on_err c.spell_decoded.result _
    (items_broken c.args.position c.args.source.now Later new new c.args.errors.now after after c.args.front.now
    (string_bytes c.in_ok-text.text) true c.in_ok-text.ensures.ok.read
    (unreported (items_told Later new) new new after after refl (omega arith) refl))
