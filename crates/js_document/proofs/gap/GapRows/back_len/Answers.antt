use Rattle.std.proofs.Common.{arith}
use Rattle.js_document.proofs.GapLemmas.{back_long}
use Rattle.js_document.proofs.gap.GapRows.back_len.Goals as goal

pub overflow_sub-result : goal.overflow_sub-result
overflow_sub-result g c = (let few = c.self.invariant.few in let all = c.len.ensures in omega (arith, few, all))

pub returns : goal.returns
returns g c =
    let long = back_long c.self.inside.rows c.self.inside.gap c.self.inside.pad c.args.self.now c.self.view_is in
    let all = c.len.ensures in
    omega (arith, long, all)
