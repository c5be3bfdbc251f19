use Rattle.std.proofs.Common.{◌-◌, ◌∙◌, ap, arith, length, drop, length-drop}
use Rattle.std.proofs.lemmas.List.{take_all}
use Rattle.js_grammar.specs.CommentClasses.{is_licensed}
use Rattle.js_trivia.proofs.Licences.{at_first, at_none}
use Rattle.js_trivia.proofs.classes.from_next_at.Goals as goal

pub returns-in-Some-clause-some : goal.returns-in-Some-clause-some
returns-in-Some-clause-some c =
    let text = c.args.text.now in
    let at = c.in-Some.at in
    let whole = take_all (length text - at) (drop at text) (omega (arith, length-drop at text)) in (
      ap is_licensed whole ∙ at_first text at c.in-Some.ensures,
      omega (arith, ap length whole, length-drop at text, c.in-Some.ensures.0.high),
    )

pub returns-in-None-clause-none : goal.returns-in-None-clause-none
returns-in-None-clause-none c = at_none c.args.text.now c.in-None.ensures
