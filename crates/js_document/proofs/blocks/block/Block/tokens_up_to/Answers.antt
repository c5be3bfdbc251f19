use Rattle.std.proofs.Common.{◌∙◌, ap, arith, length, sym, take}
use Rattle.std.proofs.lemmas.List.{length-map, length-take-le, take-map}
use Rattle.js_document.specs.Gap.{count_tokens, rows_of, shifted_entry}
use Rattle.js_document.proofs.GapLemmas.{count_shifted}
use Rattle.js_document.proofs.blocks.block.Block.tokens_up_to.Goals as goal

pub slice_bounds-count_tokens-end : goal.slice_bounds-count_tokens-end
slice_bounds-count_tokens-end g c =
    let es = c.self.inside.entries.items in
    let few = c.requires in
    let same = ap (λ b. length b.entries) c.self.view_is in
    let long = length-map es (shifted_entry c.self.inside.shift.from c.self.inside.shift.to) in
    let held = ap (λ l. length l) c.as_slice.ensures.value in
    sym (length-take-le c.args.count c.as_slice.result.now (omega (arith, few, same, long, held)))

pub returns : goal.returns
returns g c =
    let es = c.self.inside.entries.items in
    let shift = c.self.inside.shift in
    c.count_tokens.ensures.count
    ∙ ap (λ l. count_tokens (rows_of (take c.args.count l))) c.as_slice.ensures.value
    ∙ sym (count_shifted shift.from shift.to (take c.args.count es))
    ∙ ap (λ l. count_tokens (rows_of l)) (sym (take-map (shifted_entry shift.from shift.to) c.args.count es))
    ∙ ap (λ b. count_tokens (rows_of (take c.args.count b.entries))) c.self.view_is
