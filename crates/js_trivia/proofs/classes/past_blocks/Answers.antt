use Rattle.std.proofs.Common.{◌-◌, ◌∙◌, ap, sym, arith, length, drop, length-drop}
use Rattle.std.proofs.lemmas.List.{take_all}
use Rattle.js_grammar.specs.CommentClasses.{is_licensed}
use Rattle.js_trivia.proofs.Licences.{without_any_at}
use Rattle.js_trivia.proofs.classes.past_blocks.Goals as goal

pub loop-rest-preserved : goal.loop-rest-preserved
loop-rest-preserved c =
    let rest = c.loop-rest.rest.now in
    let size = c.args.size in
    let whole = take_all (length rest - size) (drop size rest) (omega (arith, length-drop size rest)) in
    ap is_licensed whole
    ∙ sym (without_any_at size rest (sym c.contains.ensures.value ∙ c.if-contains.false))
    ∙ c.loop-rest.invariant
