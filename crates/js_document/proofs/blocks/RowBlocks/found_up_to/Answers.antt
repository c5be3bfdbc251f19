use Rattle.std.proofs.Common.{◌≡◌, ◌++◌, ◌-◌, ◌∙◌, ap, arith, get_or, length, refl, subst, sym, take}
use Rattle.std.proofs.lemmas.Option.{slice_get_read}
use Rattle.js_document.specs.Blocks.{BeginUpTo, entries_in}
use Rattle.js_document.specs.Found.{counts_in, found_by}
use Rattle.js_document.specs.Gap.{rows_of}
use Rattle.js_document.proofs.BlockLemmas.{IsInBlock, given_as, in_block, none_begin}
use Rattle.js_document.proofs.KeptLemmas.{rows_joined}
use Rattle.js_document.proofs.ListLemmas.{none_taken}
use Rattle.js_document.proofs.blocks.RowBlocks.found_up_to.Given.{Over}
use Rattle.js_document.proofs.blocks.RowBlocks.found_up_to.Goals as goal
use Rattle.js_document.proofs.blocks.RowBlocks.found_up_to.Goals.{After-index-blocks-number}

inside : (g : Over) (c : After-index-blocks-number g)
    → IsInBlock c.self.inside.blocks.items c.args.count c.in-Some.number c.index-blocks-number.result
inside g c =
    let bs = c.self.inside.blocks.items in
    let is = c.in-Some.ensures in
    let same = c.as_slice-blocks.ensures.value in
    let up_to = subst (λ xs. BeginUpTo xs c.args.count c.blocks_up_to.result) same c.blocks_up_to.ensures in
    let few = up_to.few in
    let b = c.index-blocks-number.result in
    in_block bs c.self.invariant.numbered c.args.count c.blocks_up_to.result c.in-Some.number b up_to (omega (arith, is.0)) is.1
    (slice_get_read bs (length bs) c.in-Some.number b refl (omega (arith, is.0, is.1, few))
    (c.index-blocks-number.is ∙ ap (λ xs. get_or xs c.in-Some.number b) same))

pub overflow_sub-count : goal.overflow_sub-count
overflow_sub-count g c =
    let from = (inside g (goal.at.overflow_sub-count g c).After-index-blocks-number).from in
    let is = c.rows_before.ensures in
    omega (arith, from, is)

pub found_up_to-requires : goal.found_up_to-requires
found_up_to-requires g c =
    let small = c.requires in
    let same = ap (λ es. length es) c.self.view_is in
    let few = (inside g (goal.at.found_up_to-requires g c).After-index-blocks-number).few (omega (arith, small, same)) in
    let is = c.rows_before.ensures in
    omega (arith, few, is)

pub returns-in_ok-counts-in-Some : goal.returns-in_ok-counts-in-Some
returns-in_ok-counts-in-Some g c =
    let bs = c.self.inside.blocks.items in
    let b = c.index-blocks-number.result in
    let at = (goal.at.returns-in_ok-counts-in-Some g c).After-index-blocks-number in
    let small = c.requires in
    let same = ap (λ es. length es) c.self.view_is in
    let before = entries_in (take c.in-Some.number bs) in
    let inner = take (c.args.count - b.rows_before) b.entries in
    given_as c.found_up_to.result _ _
    (c.found_up_to.ensures (rows_of before)
    (c.in_ok-counts-in-Some.ensures
    ∙ ap (λ xs. counts_in (found_by (rows_of (entries_in (take c.in-Some.number xs))))) c.as_slice-blocks.ensures.value))
    (ap (λ n. counts_in (found_by (rows_of before ++ rows_of (take (c.args.count - n) b.entries)))) c.rows_before.ensures
    ∙ ap (λ rows. counts_in (found_by rows)) (sym (rows_joined before inner))
    ∙ ap (λ es. counts_in (found_by (rows_of es))) (sym ((inside g at).taken (omega (arith, small, same))))
    ∙ ap (λ es. counts_in (found_by (rows_of (take c.args.count es)))) c.self.view_is)

pub returns-in-None : goal.returns-in-None
returns-in-None g c =
    let bs = c.self.inside.blocks.items in
    let is = c.in-None.ensures in
    let up_to = subst (λ xs. BeginUpTo xs c.args.count c.blocks_up_to.result) c.as_slice-blocks.ensures.value c.blocks_up_to.ensures in
    let zero : c.blocks_up_to.result ≡ 0 = omega (arith, is) in
    let none = none_begin bs c.args.count (subst (BeginUpTo bs c.args.count) zero up_to) in
    c.none.ensures ∙ ap (λ es. counts_in (found_by (rows_of es))) (none_taken c.args.count)
    ∙ ap (λ xs. counts_in (found_by (rows_of (take c.args.count (entries_in xs))))) (sym none)
    ∙ ap (λ es. counts_in (found_by (rows_of (take c.args.count es)))) c.self.view_is
