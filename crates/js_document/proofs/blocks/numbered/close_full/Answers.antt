use Rattle.std.proofs.Common.{◌≡◌, ◌++◌, [], ap, arith, length, subst, sym}
use Rattle.std.proofs.lemmas.Result.{IfOk-weaker}
use Rattle.std.specs.List.{AllByRecursion}
use Rattle.js_document.specs.Blocks.{HasRows, MovesEntry, entries_in}
use Rattle.js_document.proofs.BlockSteps.{closed}
use Rattle.js_document.proofs.ListLemmas.{all_pushed}
use Rattle.js_document.proofs.blocks.numbered.close_full.Goals as goal

pub returns-clause-entries : goal.returns-clause-entries
returns-clause-entries g c =
    let old = c.args.blocks.now.items in
    let new = c.push.new.self.items in
    IfOk-weaker c.with_capacity.result (λ left. left.items ≡ [])
    (λ left. entries_in new ++ left.items ≡ entries_in old ++ c.args.rows.items)
    (λ left none.
    closed old new c.in_ok-block.block c.args.rows.items left.items c.in_ok-push.ensures.items
    (ap (λ b. b.entries) c.in_ok-block.ensures) none) c.with_capacity.ensures.items

pub returns-clause-moves : goal.returns-clause-moves
returns-clause-moves g c =
    IfOk-weaker c.with_capacity.result (λ left. left.items ≡ []) (λ left. AllByRecursion (MovesEntry 0 0) left.items)
    (λ left none. subst (AllByRecursion (MovesEntry 0 0)) (sym none) tt) c.with_capacity.ensures.items

pub returns-clause-some : goal.returns-clause-some
returns-clause-some g c =
    let size = c.requires.size in
    let many = c.if-len-size.false in
    let long = c.len.ensures in
    let items = c.args.rows.ok.0 in
    let same = ap (λ b. length b.entries) c.in_ok-block.ensures in
    IfOk-weaker c.with_capacity.result (λ left. left.items ≡ []) (λ left. AllByRecursion HasRows c.push.new.self.items)
    (λ left none.
    subst (AllByRecursion HasRows) (sym c.in_ok-push.ensures.items)
    (all_pushed HasRows c.args.blocks.now.items c.in_ok-block.block c.requires.some
    (omega (arith, size, many, long, items, same)))) c.with_capacity.ensures.items
