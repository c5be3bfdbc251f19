use Rattle.std.proofs.Common.{◌≡◌, ◌-◌, ◌∙◌, ap, arith, length, refl, subst, sym, take}
use Rattle.std.proofs.lemmas.Option.{slice_get_read}
use Rattle.js_document.specs.Blocks.{BeginUpTo, entries_in}
use Rattle.js_document.specs.Gap.{count_tokens, rows_of}
use Rattle.js_document.proofs.BlockLemmas.{IsInBlock, in_block, none_begin}
use Rattle.std.proofs.lemmas.List.{length-append, length-take}
use Rattle.js_document.proofs.GapLemmas.{count_both, count_few}
use Rattle.js_document.proofs.ListLemmas.{none_taken}
use Rattle.js_document.proofs.blocks.RowBlocks.tokens_up_to.Given.{Over}
use Rattle.js_document.proofs.blocks.RowBlocks.tokens_up_to.Goals as goal
use Rattle.js_document.proofs.blocks.RowBlocks.tokens_up_to.Goals.{After-index-block}

inside : (g : Over) (c : After-index-block g)
    → IsInBlock c.self.inside.blocks.items c.args.count c.in-Some.number c.index-block.result.now
inside g c =
    let bs = c.self.inside.blocks.items in
    let is = c.in-Some.ensures in
    let up_to = subst (λ xs. BeginUpTo xs c.args.count c.blocks_up_to.result) c.as_slice.ensures.value c.blocks_up_to.ensures in
    let few = up_to.few in
    in_block bs c.self.invariant.numbered c.args.count c.blocks_up_to.result c.in-Some.number c.index-block.result.now up_to
    (omega (arith, is.0)) is.1
    (slice_get_read bs (length bs) c.in-Some.number c.index-block.result.now refl (omega (arith, is.0, is.1, few)) c.index-block.ensures)

pub index-block-requires : goal.index-block-requires
index-block-requires g c =
    let is = c.in-Some.ensures in
    let up_to = subst (λ xs. BeginUpTo xs c.args.count c.blocks_up_to.result) c.as_slice.ensures.value c.blocks_up_to.ensures in
    let few = up_to.few in
    let items = c.self.inside.blocks.ok.0 in
    omega (arith, is.0, is.1, few, items)

pub overflow_sub-count : goal.overflow_sub-count
overflow_sub-count g c =
    let from = (inside g (goal.at.overflow_sub-count g c).After-index-block).from in
    let is = c.rows_before.ensures in
    omega (arith, from, is)

pub tokens_up_to-requires : goal.tokens_up_to-requires
tokens_up_to-requires g c =
    let small = c.requires in
    let same = ap (λ es. length es) c.self.view_is in
    let few = (inside g (goal.at.tokens_up_to-requires g c).After-index-block).few (omega (arith, small, same)) in
    let is = c.rows_before.ensures in
    omega (arith, few, is)

pub overflow_add-result : goal.overflow_add-result
overflow_add-result g c =
    let bs = c.self.inside.blocks.items in
    let b = c.index-block.result.now in
    let within = inside g (goal.at.overflow_add-result g c).After-index-block in
    let small = c.requires in
    let same = ap (λ es. length es) c.self.view_is in
    let before = entries_in (take c.in-Some.number bs) in
    let inner = take (c.args.count - b.rows_before) b.entries in
    let first = c.tokens_before.ensures ∙ within.tokens_is in
    let second = c.tokens_up_to.ensures
    ∙ ap (λ n. count_tokens (rows_of (take (c.args.count - n) b.entries))) c.rows_before.ensures in
    let front = count_few before in
    let rest = count_few inner in
    let taken = ap (λ es. length es) (within.taken (omega (arith, small, same))) ∙ length-append before inner in
    let long = length-take c.args.count (entries_in bs) in
    let all = c.self.invariant.len_is in
    omega (arith, first, second, front, rest, taken, long, all, small, same)

pub returns-in-Some : goal.returns-in-Some
returns-in-Some g c =
    let bs = c.self.inside.blocks.items in
    let b = c.index-block.result.now in
    let within = inside g (goal.at.returns-in-Some g c).After-index-block in
    let small = c.requires in
    let same = ap (λ es. length es) c.self.view_is in
    let before = entries_in (take c.in-Some.number bs) in
    let first = c.tokens_before.ensures ∙ within.tokens_is in
    let second = c.tokens_up_to.ensures
    ∙ ap (λ n. count_tokens (rows_of (take (c.args.count - n) b.entries))) c.rows_before.ensures in
    let all = ap (λ es. count_tokens (rows_of es)) (within.taken (omega (arith, small, same)))
    ∙ count_both before (take (c.args.count - b.rows_before) b.entries) in
    let view = ap (λ es. count_tokens (rows_of (take c.args.count es))) c.self.view_is in
    omega (arith, first, second, all, view)

pub returns-in-None : goal.returns-in-None
returns-in-None g c =
    let bs = c.self.inside.blocks.items in
    let is = c.in-None.ensures in
    let up_to = subst (λ xs. BeginUpTo xs c.args.count c.blocks_up_to.result) c.as_slice.ensures.value c.blocks_up_to.ensures in
    let zero : c.blocks_up_to.result ≡ 0 = omega (arith, is) in
    let none = none_begin bs c.args.count (subst (BeginUpTo bs c.args.count) zero up_to) in
    ap (λ es. count_tokens (rows_of es)) (none_taken c.args.count)
    ∙ ap (λ xs. count_tokens (rows_of (take c.args.count (entries_in xs)))) (sym none)
    ∙ ap (λ es. count_tokens (rows_of (take c.args.count es))) c.self.view_is
