use Rattle.std.proofs.Common.{◌≡◌, ◌+◌, ◌∙◌, ap, arith, false, length, refl, rules, subst, sym, true}
use Rattle.std.specs.List.Sorted.{IsPartitionPoint, IsPartitionedBy}
use Rattle.std.proofs.lemmas.List.Sorted.{IsPartitionPoint-from_clause}
use Rattle.std.proofs.lemmas.Option.{slice_get_read}
use Rattle.js_document.specs.Blocks.{entries_in, starts_by}
use Rattle.js_document.specs.Gap.{AreInOrder, rows_of}
use Rattle.js_document.specs.LiveTokens.{StartUpTo}
use Rattle.js_document.proofs.BlockLemmas.{before_is, block_ordered, long}
use Rattle.js_document.proofs.BlockSteps.{starts_none, starts_parted, starts_some}
use Rattle.js_document.proofs.blocks.RowBlocks.starts_up_to.Given.{Over}
use Rattle.js_document.proofs.blocks.RowBlocks.starts_up_to.Goals as goal
use Rattle.js_document.proofs.blocks.RowBlocks.starts_up_to.Goals.{After-partition_point-count}

point : (g : Over) (c : After-partition_point-count g)
    → IsPartitionPoint (λ b. starts_by c.args.place b ≡ true) (λ b. starts_by c.args.place b ≡ false)
    c.self.inside.blocks.items c.partition_point-count.result
point g c =
    let order = subst (λ es. AreInOrder (rows_of es)) (sym c.self.view_is) c.requires in
    let bs = c.self.inside.blocks.items in
    let same = c.as_slice.ensures.value in
    subst
    (λ xs. IsPartitionPoint (λ b. starts_by c.args.place b ≡ true) (λ b. starts_by c.args.place b ≡ false) xs
    c.partition_point-count.result) same
    (IsPartitionPoint-from_clause (starts_by c.args.place) c.as_slice.result.now c.partition_point-count.result
    c.partition_point-count.ensures.partitioned
    (subst (IsPartitionedBy (starts_by c.args.place)) (sym same)
    (starts_parted bs c.self.invariant.some order c.args.place)) (λ a r f k. search rules))

pub index-block-requires : goal.index-block-requires
index-block-requires g c =
    let is = c.in-Some.ensures in
    let few = c.partition_point-count.ensures.bound in
    let same = ap (λ xs. length xs) c.as_slice.ensures.value in
    let items = c.self.inside.blocks.ok.0 in
    omega (arith, is.0, is.1, few, same, items)

pub starts_up_to-requires : goal.starts_up_to-requires
starts_up_to-requires g c =
    let bs = c.self.inside.blocks.items in
    let is = c.in-Some.ensures in
    let few = c.partition_point-count.ensures.bound in
    let same = ap (λ xs. length xs) c.as_slice.ensures.value in
    block_ordered bs c.in-Some.number c.index-block.result.now
    (slice_get_read bs (length bs) c.in-Some.number c.index-block.result.now refl (omega (arith, is.0, is.1, few, same)) c.index-block.ensures)
    (subst (λ es. AreInOrder (rows_of es)) (sym c.self.view_is) c.requires)

pub returns-in-Some : goal.returns-in-Some
returns-in-Some g c =
    let bs = c.self.inside.blocks.items in
    let b = c.index-block.result.now in
    let is = c.in-Some.ensures in
    let few = c.partition_point-count.ensures.bound in
    let same = ap (λ xs. length xs) c.as_slice.ensures.value in
    let there = slice_get_read bs (length bs) c.in-Some.number b refl (omega (arith, is.0, is.1, few, same)) c.index-block.ensures in
    let order = subst (λ es. AreInOrder (rows_of es)) (sym c.self.view_is) c.requires in
    subst (λ es. StartUpTo c.args.place es (c.rows_before.result + c.starts_up_to.result)) c.self.view_is
    (subst (λ n. StartUpTo c.args.place (entries_in bs) (n + c.starts_up_to.result))
    (sym (c.rows_before.ensures ∙ before_is bs c.self.invariant.numbered c.in-Some.number b there))
    (starts_some bs c.self.invariant.some order c.args.place c.partition_point-count.result (omega (arith, few, same))
    (point g (goal.at.returns-in-Some g c).After-partition_point-count)
    c.in-Some.number b there (omega (arith, is.0)) is.1 c.starts_up_to.result c.starts_up_to.ensures))

pub returns-in-None : goal.returns-in-None
returns-in-None g c =
    let bs = c.self.inside.blocks.items in
    let is = c.in-None.ensures in
    let few = c.partition_point-count.ensures.bound in
    let same = ap (λ xs. length xs) c.as_slice.ensures.value in
    let order = subst (λ es. AreInOrder (rows_of es)) (sym c.self.view_is) c.requires in
    subst (λ es. StartUpTo c.args.place es 0) c.self.view_is
    (starts_none bs c.self.invariant.some order c.args.place c.partition_point-count.result (omega (arith, few, same))
    (point g (goal.at.returns-in-None g c).After-partition_point-count)
    (omega (arith, is)))

pub overflow_add-result : goal.overflow_add-result
overflow_add-result g c =
    let bs = c.self.inside.blocks.items in
    let b = c.index-block.result.now in
    let is = c.in-Some.ensures in
    let few = c.partition_point-count.ensures.bound in
    let same = ap (λ xs. length xs) c.as_slice.ensures.value in
    let there = slice_get_read bs (length bs) c.in-Some.number b refl (omega (arith, is.0, is.1, few, same)) c.index-block.ensures in
    let first = c.rows_before.ensures ∙ before_is bs c.self.invariant.numbered c.in-Some.number b there in
    let second = c.starts_up_to.ensures.few in
    let whole = long bs c.in-Some.number b there in
    let all = c.self.invariant.len_is in
    let small = c.self.invariant.small in
    omega (arith, first, second, whole, all, small)
