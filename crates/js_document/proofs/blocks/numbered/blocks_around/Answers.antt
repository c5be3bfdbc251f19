use Rattle.std.proofs.Common.{◌≤◌, ◌-◌, ◌≡◌, ap, arith, length}
use Rattle.js_document.specs.Blocks.{entries_in}
use Rattle.js_document.proofs.BlockLemmas.{rows_up_to}
use Rattle.js_document.proofs.BlockSteps.{from_few, high_some, low_few}
use Rattle.js_document.proofs.blocks.numbered.blocks_around.Goals as goal

pub returns : goal.returns
returns g c =
    let bs = c.args.blocks.now in
    let first = c.blocks_up_to.result in
    let to = c.blocks_up_to-to.result in
    let until = c.blocks_up_to.ensures in
    let until_end = c.blocks_up_to-to.ensures in
    let end = c.requires.inside in
    let all = c.requires.all in
    let inside : c.args.end ≤ length (entries_in bs) = omega (arith, end, all) in
    let sub = c.saturating_sub-from.ensures in
    let from_is : c.saturating_sub-from.result ≡ first - 1 = omega (arith, sub) in
    let ordered = from_few bs c.args.start c.args.end first to c.requires.ordered inside until until_end in
    let low = c.rows_before.ensures in
    let high = c.rows_before-2.ensures in
    let starts = low_few bs c.args.start c.args.end first to c.requires.ordered inside until until_end in
    let ends = high_some bs c.args.start c.args.end first to c.requires.ordered inside until until_end in
    let before = ap (rows_up_to bs) from_is in
    record {
      ordered = omega (arith, from_is, ordered);
      inside = until_end.few;
      low_is = low;
      high_is = high;
      starts = omega (arith, low, before, starts);
      ends = omega (arith, high, ends);
    }
