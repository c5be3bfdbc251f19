use Rattle.std.proofs.Common.{ap, ◌∙◌, ◌++◌}
use Rattle.std.specs.Str.{chars}
use Rattle.js_text.specs.JsStr.{units_of}
use Rattle.js_grammar.specs.StringItems.{string_text}
use Rattle.js_source.specs.Source.{rest}
use Rattle.std.proofs.Common.{arith, refl}
use Rattle.js_source.proofs.Places.{same_rest}
use Rattle.js_spell.proofs.BreakSteps.{on_err, unreported}
use Rattle.js_spell.proofs.ItemSteps.{decoded_value_read, stretch_chars}
use Rattle.js_spell.proofs.items.read_decoded.Goals as goal

pub returns-clause-ok : goal.returns-clause-ok
returns-clause-ok c = λ from at plain.
    let cs = string_text plain.ordinary.items in
    let here = same_rest c.args.source.now from c.args.from at.text at.there in
    let spelled = c.str_from_pos_to_current-front.ensures.characters cs (here ∙ plain.ordinary.here) in
    let chars_are = stretch_chars from cs (rest c.args.source.now) c.str_from_pos_to_current-front.result.now
    plain.ordinary.here spelled in
    rw c.decoded.ensures
    (decoded_value_read c.args.literal c.args.token.now.start from c.args.source.now c.read_items.new.source
    c.push_str.new.self c.read_items.new.text c.args.errors.now c.read_items.new.errors c.in_ok-has_bad.has_bad
    plain (c.in_ok-push_str.ensures.ok
    ∙ ap (λ us. us ++ units_of (chars c.str_from_pos_to_current-front.result.now)) c.in_ok-text.ensures
    ∙ ap units_of chars_are) c.requires.escaped
    c.in_ok-has_bad.ensures.ok c.in_ok-has_bad.ensures.ended)

pub returns-in_err-text-clause-err : goal.returns-in_err-text-clause-err
returns-in_err-text-clause-err c =
    on_err c.from_residual.result _
    (unreported _ c.args.source.now c.args.source.now c.args.errors.now c.args.errors.now refl (omega arith) refl)

pub returns-in_err-push_str-clause-err : goal.returns-in_err-push_str-clause-err
returns-in_err-push_str-clause-err c =
    on_err c.from_residual-in_err-push_str.result _
    (unreported _ c.args.source.now c.args.source.now c.args.errors.now c.args.errors.now refl (omega arith) refl)

pub returns-in_err-has_bad-clause-err : goal.returns-in_err-has_bad-clause-err
returns-in_err-has_bad-clause-err c = on_err c.from_residual-in_err-has_bad.result _ c.in_err-has_bad.ensures.err
