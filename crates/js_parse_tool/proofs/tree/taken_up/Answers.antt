use Rattle.std.proofs.Common.{sym, ◌∙◌}
use Rattle.js_parse_tool.proofs.TreeSteps.{hull_none, hull_some}
use Rattle.js_parse_tool.proofs.tree.taken_up.Goals as goal

pub returns-in-Some : goal.returns-in-Some
returns-in-Some c =
    λ text place ordered.
    hull_some text c.args.before.now c.args.within.now c.in-Some.first _ ordered
    (sym c.first_of.ensures ∙ c.in-Some.is) c.last_end-end.ensures

pub returns-in-None : goal.returns-in-None
returns-in-None c =
    λ text place ordered.
    rw c.empty.ensures
    (hull_none text c.args.before.now c.args.within.now _ place (sym c.first_of.ensures ∙ c.in-None.is)
    c.last_end.ensures)
