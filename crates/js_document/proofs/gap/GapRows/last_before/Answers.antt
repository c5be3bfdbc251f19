use Rattle.std.proofs.Common.{arith, sym}
use Rattle.js_document.proofs.GapLemmas.{last_none, last_there}
use Rattle.js_document.proofs.gap.GapRows.last_before.Goals as goal

pub at-requires : goal.at-requires
at-requires g c =
    let few = c.self.invariant.few in
    let is = c.in-Some.ensures in
    omega (arith, few, is.0, is.1)

pub returns-in-Some : goal.returns-in-Some
returns-in-Some g c =
    let is = c.in-Some.ensures in
    sym
    (last_there c.self.inside.rows c.self.inside.gap c.self.inside.pad c.args.self.now c.self.view_is c.in-Some.last c.at.result
    c.self.invariant.few is.0 is.1 c.at.ensures)

pub returns-in-None : goal.returns-in-None
returns-in-None g c =
    let is = c.in-None.ensures in
    sym (last_none c.self.inside.rows c.self.inside.gap c.self.inside.pad c.args.self.now c.self.view_is (omega (arith, is)))
