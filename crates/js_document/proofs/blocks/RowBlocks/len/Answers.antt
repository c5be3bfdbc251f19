use Rattle.std.proofs.Common.{◌∙◌, ap, length}
use Rattle.js_document.proofs.blocks.RowBlocks.len.Goals as goal

pub returns : goal.returns
returns g c = c.self.invariant.len_is ∙ ap (λ es. length es) c.self.view_is
