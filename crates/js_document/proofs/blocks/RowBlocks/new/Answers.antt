use Rattle.std.proofs.Common.{◌≡◌, ◌++◌, ◌∙◌, ap, arith, drop, length, subst, sym, take}
use Rattle.std.specs.List.{AllByRecursion}
use Rattle.js_document.specs.Blocks.{AreNumbered, HasRows, entries_in, numbered}
use Rattle.js_document.proofs.BlockLemmas.{numbered_are, numbered_entries, numbered_some}
use Rattle.js_document.proofs.ListLemmas.{lent}
use Rattle.js_document.proofs.blocks.RowBlocks.new.Given.{Over}
use Rattle.js_document.proofs.blocks.RowBlocks.new.Goals as goal
use Rattle.js_document.proofs.blocks.RowBlocks.new.Goals.{After-number_blocks}

pub number_blocks-requires : goal.number_blocks-requires
number_blocks-requires g c =
    let same = ap (λ es. length es) c.in_ok-blocks.ensures.entries in
    let held = ap (λ bs. length (entries_in bs)) c.as_mut_slice.ensures.value in
    let long = c.len-len.ensures in
    let items = c.args.entries.ok.0 in
    let small = c.args.entries.small in
    omega (arith, same, held, long, items, small)

-- the blocks are numbered
told : (g : Over) (c : After-number_blocks g)
    → take c.in_ok-blocks.blocks.len
    (c.number_blocks.new.blocks ++ drop (length c.number_blocks.new.blocks) c.in_ok-blocks.blocks.items)
    ≡ numbered 0 0 c.in_ok-blocks.blocks.items
told g c =
    let same = c.as_mut_slice.ensures.value in
    lent c.in_ok-blocks.blocks.len c.number_blocks.new.blocks c.in_ok-blocks.blocks.items c.in_ok-blocks.blocks.ok.0
    (c.number_blocks.auto.blocks ∙ ap (λ l. length l) same)
    ∙ c.number_blocks.ensures ∙ ap (numbered 0 0) same

pub invariant_of-result : goal.invariant_of-result
invariant_of-result g c =
    let blocks = c.in_ok-blocks.blocks.items in
    let is = told g (goal.at.invariant_of-result g c).After-number_blocks in
    record {
      some = subst (AllByRecursion HasRows) (sym is) (numbered_some 0 0 blocks c.in_ok-blocks.ensures.some);
      numbered = subst (AreNumbered 0 0) (sym is) (numbered_are 0 0 blocks);
      len_is =
          c.len-len.ensures ∙ c.args.entries.ok.0 ∙ ap (λ es. length es) (sym c.in_ok-blocks.ensures.entries)
          ∙ ap (λ es. length es) (sym (numbered_entries 0 0 blocks)) ∙ ap (λ bs. length (entries_in bs)) (sym is);
      small =
          let long = c.len-len.ensures in
          let items = c.args.entries.ok.0 in
          let few = c.args.entries.small in
          omega (arith, long, items, few);
    }

pub returns : goal.returns
returns g c =
    let is = told g (goal.at.returns g c).After-number_blocks in
    ap entries_in is ∙ numbered_entries 0 0 c.in_ok-blocks.blocks.items ∙ c.in_ok-blocks.ensures.entries
