use Rattle.std.proofs.Common.{◌∙◌, ap}
use Rattle.js_document.proofs.BlockLemmas.{moves_fit}
use Rattle.js_document.proofs.blocks.held.Held.value.Goals as goal

pub handed-requires : goal.handed-requires
handed-requires g c =
    (moves_fit c.self.inside.shift.from c.self.inside.shift.to c.self.inside.entry.now c.self.invariant).value

pub returns : goal.returns
returns g c = c.handed.ensures ∙ ap (λ e. e.row.value) c.self.view_is
