use Rattle.std.proofs.Common.{◌++◌, ◌∙◌, ap, arith, length, map, sym, take}
use Rattle.std.proofs.lemmas.List.{length-map, length-take-le, take-map}
use Rattle.js_document.specs.Found.{counts_and, counts_in, found_by}
use Rattle.js_document.specs.Gap.{rows_of, shifted_entry}
use Rattle.js_document.proofs.BlockLemmas.{given_as}
use Rattle.js_document.proofs.CountLemmas.{counts_both, counts_moved}
use Rattle.js_document.proofs.blocks.block.Block.found_up_to.Goals as goal

pub slice_bounds-count_found-end : goal.slice_bounds-count_found-end
slice_bounds-count_found-end g c =
    let es = c.self.inside.entries.items in
    let few = c.requires in
    let same = ap (λ b. length b.entries) c.self.view_is in
    let long = length-map es (shifted_entry c.self.inside.shift.from c.self.inside.shift.to) in
    let held = ap (λ l. length l) c.as_slice.ensures.value in
    sym (length-take-le c.args.count c.as_slice.result.now (omega (arith, few, same, long, held)))

pub returns : goal.returns
returns g c = λ front start.
    let es = c.self.inside.entries.items in
    let shift = c.self.inside.shift in
    let count = c.args.count in
    let moved = map (shifted_entry shift.from shift.to) (take count es) in
    given_as c.count_found.result _ _ (c.count_found.ensures front start)
    (ap (λ l. counts_in (found_by (front ++ rows_of (take count l)))) c.as_slice.ensures.value
    ∙ counts_both front (rows_of (take count es))
    ∙ ap (counts_and (counts_in (found_by front))) (sym (counts_moved shift.from shift.to (take count es)))
    ∙ sym (counts_both front (rows_of moved))
    ∙ ap (λ l. counts_in (found_by (front ++ rows_of l))) (sym (take-map (shifted_entry shift.from shift.to) count es))
    ∙ ap (λ b. counts_in (found_by (front ++ rows_of (take count b.entries)))) c.self.view_is)
