use Rattle.std.proofs.Common.{sym}
use Rattle.js_document.proofs.GapLemmas.{front_long}
use Rattle.js_document.proofs.gap.GapRows.front_len.Goals as goal

pub returns : goal.returns
returns g c =
    sym (front_long c.self.inside.rows c.self.inside.gap c.self.inside.pad c.args.self.now c.self.view_is c.self.invariant.few)
