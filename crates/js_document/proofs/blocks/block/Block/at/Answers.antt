use Rattle.std.proofs.Common.{◌≡◌, ◌<◌, Some, ap, arith, length, refl, sym, ◌∙◌}
use Rattle.std.proofs.lemmas.List.{length-map}
use Rattle.std.proofs.lemmas.Option.{slice_get_read}
use Rattle.std.specs.Prelude.{slice_get}
use Rattle.js_document.specs.Blocks.{MovesEntry}
use Rattle.js_document.specs.Gap.{shifted_entry}
use Rattle.js_document.proofs.ListLemmas.{each_there, put_mapped}
use Rattle.js_document.proofs.blocks.block.Block.at.Goals as goal

pub index-requires : goal.index-requires
index-requires g c =
    let less = c.requires in
    let items = c.self.inside.entries.ok.0 in
    let same = ap (λ b. length b.entries) c.self.view_is in
    let long = length-map c.self.inside.entries.items (shifted_entry c.self.inside.shift.from c.self.inside.shift.to) in
    omega (arith, less, same, long, items)

pub new-requires : goal.new-requires
new-requires g c =
    let es = c.self.inside.entries.items in
    let e = c.index.result.now in
    let shift = c.self.inside.shift in
    let same = ap (λ b. length b.entries) c.self.view_is in
    let long = length-map es (shifted_entry shift.from shift.to) in
    let less : c.args.index < length es = (let inside = c.requires in omega (arith, inside, same, long)) in
    each_there (MovesEntry shift.from shift.to) es c.args.index e c.self.invariant.moves
    (slice_get_read es (length es) c.args.index e refl less c.index.ensures)

pub returns : goal.returns
returns g c =
    let es = c.self.inside.entries.items in
    let e = c.index.result.now in
    let shift = c.self.inside.shift in
    let same = ap (λ b. length b.entries) c.self.view_is in
    let long = length-map es (shifted_entry shift.from shift.to) in
    let less : c.args.index < length es = (let inside = c.requires in omega (arith, inside, same, long)) in
    let there : slice_get es c.args.index ≡ Some e =
    slice_get_read es (length es) c.args.index e refl less c.index.ensures in
    ap (λ b. slice_get b.entries c.args.index) (sym c.self.view_is)
    ∙ put_mapped (shifted_entry shift.from shift.to) es c.args.index e there ∙ ap Some (sym c.new.ensures)
