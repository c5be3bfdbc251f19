use Rattle.std.proofs.Common.{ap}
use Rattle.js_document.proofs.BlockLemmas.{given_as, moves_fit}
use Rattle.js_document.proofs.blocks.held.Held.copied_row.Goals as goal

pub moved_row-requires-clause-fits : goal.moved_row-requires-clause-fits
moved_row-requires-clause-fits g c =
    moves_fit c.self.inside.shift.from c.self.inside.shift.to c.self.inside.entry.now c.self.invariant

pub moved_row-requires-clause-ordered : goal.moved_row-requires-clause-ordered
moved_row-requires-clause-ordered g c = c.self.invariant.ordered

pub returns : goal.returns
returns g c = given_as c.moved_row.result _ _ c.moved_row.ensures (ap (λ e. e.row) c.self.view_is)
