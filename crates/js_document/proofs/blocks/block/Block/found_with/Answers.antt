use Rattle.std.proofs.Common.{◌++◌, ◌∙◌, ap, map, sym}
use Rattle.js_document.specs.Found.{counts_and, counts_in, found_by}
use Rattle.js_document.specs.Gap.{rows_of, shifted_entry}
use Rattle.js_document.proofs.BlockLemmas.{given_as}
use Rattle.js_document.proofs.CountLemmas.{counts_both, counts_moved}
use Rattle.js_document.proofs.blocks.block.Block.found_with.Goals as goal

pub returns : goal.returns
returns g c = λ front start.
    let es = c.self.inside.entries.items in
    let shift = c.self.inside.shift in
    let moved = rows_of (map (shifted_entry shift.from shift.to) es) in
    given_as c.with.result _ _ c.with.ensures
    (ap (λ n. counts_and n c.self.inside.found) start ∙ ap (counts_and (counts_in (found_by front))) c.self.invariant.found_are
    ∙ ap (counts_and (counts_in (found_by front))) (sym (counts_moved shift.from shift.to es))
    ∙ sym (counts_both front moved) ∙ ap (λ b. counts_in (found_by (front ++ rows_of b.entries))) c.self.view_is)
