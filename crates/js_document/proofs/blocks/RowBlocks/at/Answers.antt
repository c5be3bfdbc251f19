use Rattle.std.proofs.Common.{◌<◌, ◌∙◌, ap, arith, length, refl, subst, sym, ◌-◌}
use Rattle.std.specs.Prelude.{slice_get}
use Rattle.std.proofs.lemmas.Option.{slice_get_read}
use Rattle.js_document.specs.Blocks.{BeginUpTo}
use Rattle.js_document.proofs.BlockLemmas.{IsInBlock, in_block, some_begin}
use Rattle.js_document.proofs.blocks.RowBlocks.at.Given.{Over}
use Rattle.js_document.proofs.blocks.RowBlocks.at.Goals as goal
use Rattle.js_document.proofs.blocks.RowBlocks.at.Goals.{After-blocks_up_to-number, After-index-block}

up_to : (g : Over) (c : After-blocks_up_to-number g)
    → BeginUpTo c.self.inside.blocks.items c.args.index c.blocks_up_to-number.result
up_to g c = subst (λ xs. BeginUpTo xs c.args.index c.blocks_up_to-number.result) c.as_slice.ensures.value c.blocks_up_to-number.ensures

some : (g : Over) (c : After-blocks_up_to-number g) → 0 < c.blocks_up_to-number.result
some g c =
    let less = c.requires in
    let same = ap (λ es. length es) c.self.view_is in
    some_begin c.self.inside.blocks.items c.args.index c.blocks_up_to-number.result (up_to g c) (omega (arith, less, same))

pub overflow_sub-number : goal.overflow_sub-number
overflow_sub-number g c = (let one = some g c in omega (arith, one))

pub index-block-requires : goal.index-block-requires
index-block-requires g c =
    let one = some g c in
    let few = (up_to g c).few in
    let items = c.self.inside.blocks.ok.0 in
    omega (arith, one, few, items)

inside : (g : Over) (c : After-index-block g)
    → IsInBlock c.self.inside.blocks.items c.args.index (c.blocks_up_to-number.result - 1) c.index-block.result.now
inside g c =
    let bs = c.self.inside.blocks.items in
    let less = c.requires in
    let same = ap (λ es. length es) c.self.view_is in
    let until = subst (λ xs. BeginUpTo xs c.args.index c.blocks_up_to-number.result) c.as_slice.ensures.value
    c.blocks_up_to-number.ensures in
    let one = some_begin bs c.args.index c.blocks_up_to-number.result until (omega (arith, less, same)) in
    let few = until.few in
    in_block bs c.self.invariant.numbered c.args.index c.blocks_up_to-number.result (c.blocks_up_to-number.result - 1)
    c.index-block.result.now until one refl
    (slice_get_read bs (length bs) (c.blocks_up_to-number.result - 1) c.index-block.result.now refl
    (omega (arith, one, few)) c.index-block.ensures)

pub overflow_sub-index : goal.overflow_sub-index
overflow_sub-index g c =
    let from = (inside g (goal.at.overflow_sub-index g c).After-index-block).from in
    let is = c.rows_before.ensures in
    omega (arith, from, is)

pub at-requires : goal.at-requires
at-requires g c =
    let small = c.requires in
    let same = ap (λ es. length es) c.self.view_is in
    let less = (inside g (goal.at.at-requires g c).After-index-block).less (omega (arith, small, same)) in
    let is = c.rows_before.ensures in
    omega (arith, less, is)

pub returns : goal.returns
returns g c =
    ap (λ es. slice_get es c.args.index) (sym c.self.view_is)
    ∙ (inside g (goal.at.returns g c).After-index-block).entry c.at.result
    (ap (λ n. slice_get c.index-block.result.now.entries (c.args.index - n)) (sym c.rows_before.ensures) ∙ c.at.ensures)
