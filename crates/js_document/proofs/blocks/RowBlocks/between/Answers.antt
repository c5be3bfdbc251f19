use Rattle.std.proofs.Common.{◌-◌, ◌++◌, ◌∙◌, ap, drop, map, take}
use Rattle.js_document.specs.Blocks.{MovesEntry}
use Rattle.js_document.specs.Gap.{shifted_entry}
use Rattle.js_document.proofs.BlockLemmas.{each_still}
use Rattle.js_document.proofs.ListLemmas.{all_dropped, all_taken}
use Rattle.js_document.proofs.blocks.RowBlocks.between.Goals as goal

pub add_copies-requires-clause-moves : goal.add_copies-requires-clause-moves
add_copies-requires-clause-moves g c =
    all_dropped (MovesEntry 0 0) c.args.low c.args.self.now c.requires.fits

pub returns : goal.returns
returns g c =
    let rows = c.args.self.now in
    let shift = c.args.shift.now in
    let first = take (c.args.start - c.args.low) (drop c.args.low rows) in
    let last = map (shifted_entry shift.from shift.to) (take (c.args.high - c.args.end) (drop c.args.end rows)) in
    let still = each_still first
    (all_taken (MovesEntry 0 0) (c.args.start - c.args.low) (drop c.args.low rows)
    (all_dropped (MovesEntry 0 0) c.args.low rows c.requires.fits)) in
    c.in_ok-add_copies-2.ensures
    ∙ ap (λ es. es ++ last)
    (c.in_ok-append.ensures.items
    ∙ ap (λ es. es ++ c.args.rows.items)
    (c.in_ok-add_copies.ensures ∙ ap (λ es. es ++ map (shifted_entry 0 0) first) c.new-entries.ensures.items ∙ still))
