use Rattle.std.proofs.Common.{ap, ◌∙◌, ◌++◌, arith, refl, subst, true}
use Rattle.std.specs.Prelude.{string_bytes}
use Rattle.js_spell.specs.Name.{ReadsItems}
use Rattle.js_spell.specs.declared.name.Position.TheVariants.{Later}
use Rattle.js_spell.proofs.BreakSteps.{on_err, unreported}
use Rattle.js_spell.proofs.NameReadings.{items_broken, name_decoded}
use Rattle.js_spell.proofs.name.decode_name.Goals as goal

pub returns-clause-ok : goal.returns-clause-ok
returns-clause-ok c =
    let start = c.in_ok-push_str.ensures.bytes
    ∙ ap (λ bytes. bytes ++ c.args.front.now) c.in_ok-decoded.ensures.bytes in
    let more = c.in_ok-read_rest_into.ensures.ok in
    name_decoded c.args.position c.args.source.now c.read_escape_into.new.source c.read_rest_into.new.source
    c.args.errors.now c.read_escape_into.new.errors c.read_rest_into.new.errors c.args.front.now
    (string_bytes c.read_escape_into.new.decoded) (string_bytes c.read_rest_into.new.decoded) more.0
    (subst
    (λ bytes. ReadsItems c.args.position c.args.source.now Later c.read_escape_into.new.source c.args.errors.now
    c.read_escape_into.new.errors bytes (string_bytes c.read_escape_into.new.decoded) true)
    start c.in_ok-read_escape_into.ensures.ok)
    more.1

pub returns-in_err-read_rest_into-clause-err : goal.returns-in_err-read_rest_into-clause-err
returns-in_err-read_rest_into-clause-err c =
    on_err c.from_residual-in_err-read_rest_into.result _
    (items_broken c.args.position c.args.source.now Later c.read_escape_into.new.source c.read_rest_into.new.source
    c.args.errors.now c.read_escape_into.new.errors c.read_rest_into.new.errors (string_bytes c.push_str.new.self)
    (string_bytes c.read_escape_into.new.decoded) true
    c.in_ok-read_escape_into.ensures.ok c.in_err-read_rest_into.ensures.err)

pub returns-in_err-decoded-clause-err : goal.returns-in_err-decoded-clause-err
returns-in_err-decoded-clause-err c =
    on_err c.from_residual.result _
    (unreported _ c.args.source.now c.args.source.now c.args.errors.now c.args.errors.now refl (omega arith) refl)

pub returns-in_err-push_str-clause-err : goal.returns-in_err-push_str-clause-err
returns-in_err-push_str-clause-err c =
    on_err c.from_residual-in_err-push_str.result _
    (unreported _ c.args.source.now c.args.source.now c.args.errors.now c.args.errors.now refl (omega arith) refl)
