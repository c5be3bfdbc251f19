use Rattle.std.proofs.Common.{sym}
use Rattle.js_document.proofs.GapLemmas.{pad_is, padded_back}
use Rattle.js_document.proofs.gap.GapRows.pad.Goals as goal

pub returns-clause-pad : goal.returns-clause-pad
returns-clause-pad g c = sym (pad_is c.self.inside.rows c.self.inside.gap c.self.inside.pad c.args.self.now c.self.view_is)

pub returns-clause-padded : goal.returns-clause-padded
returns-clause-padded g c =
    padded_back c.self.inside.rows c.self.inside.gap c.self.inside.pad c.args.self.now c.self.view_is c.self.invariant.may_pad
