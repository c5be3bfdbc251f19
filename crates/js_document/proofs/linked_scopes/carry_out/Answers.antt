use Rattle.std.proofs.Common.{drop, map}
use Rattle.js_document.specs.LinkedScopes.{scope_number}
use Rattle.js_document.proofs.JsxLemmas.{carried_end, carried_in_place, carried_open}
use Rattle.js_document.proofs.linked_scopes.carry_out.Goals as goal

pub open-requires-clause-inside : goal.open-requires-clause-inside
open-requires-clause-inside c = (map scope_number c.requires.0, c.requires.1)

pub open-requires-in-Becomes-clause-inside : goal.open-requires-in-Becomes-clause-inside
open-requires-in-Becomes-clause-inside c =
    (drop 1 (map scope_number c.requires.0), c.close-below.ensures.is (map scope_number c.requires.0) c.requires.1)

pub returns-in-Opens-clause-ok : goal.returns-in-Opens-clause-ok
returns-in-Opens-clause-ok c scopes is =
    carried_open c.args.open.now c.open.new.self c.args.link c.scope_number.result c.in-Opens.scope c.args.change scopes
    c.open.result c.in-Opens.is c.scope_number.ensures.is is c.open.ensures.ok

pub returns-in-Becomes-clause-ok : goal.returns-in-Becomes-clause-ok
returns-in-Becomes-clause-ok c scopes is =
    carried_in_place c.args.open.now c.open-in-Becomes.new.self c.close-below.result c.scope_number-in-Becomes.result
    c.in-Becomes.scope c.args.change scopes c.open-in-Becomes.result c.in-Becomes.is
    c.scope_number-in-Becomes.ensures.is (c.close-below.ensures.is (map scope_number scopes) is)
    c.open-in-Becomes.ensures.ok

pub returns-in-Ends-clause-ok : goal.returns-in-Ends-clause-ok
returns-in-Ends-clause-ok c scopes is =
    carried_end c.args.open.now c.close_all.result c.in-Ends.count c.args.change scopes c.in-Ends.is
    (c.close_all.ensures.is (map scope_number scopes) is)
