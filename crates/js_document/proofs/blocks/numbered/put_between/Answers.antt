use Rattle.std.proofs.Common.{◌≡◌, ℕ, List, ◌+◌, ◌≤◌, ◌++◌, ◌∙◌, ap, append_assoc, arith, drop, length, map, subst, sym, take}
use Rattle.std.proofs.lemmas.List.{drop_at, length-append, length-take-le, take_at}
use Rattle.std.specs.List.{AllByRecursion, splice}
use Rattle.js_document.specs.Blocks.{MovesBlock, entries_in, moved_block, numbered}
use Rattle.js_document.proofs.BlockLemmas.{entries_both}
use Rattle.js_document.proofs.ListLemmas.{lent}
use Rattle.js_document.proofs.blocks.numbered.put_between.Given.{Over}
use Rattle.js_document.proofs.blocks.numbered.put_between.Goals as goal
use Rattle.js_document.proofs.blocks.numbered.put_between.Goals.{After-as_mut_slice}

-- the parts of a list in which others were put
pub parts_put : {A : Type 0} (xs new all : List A) (start end : ℕ) → start ≤ length xs → all ≡ splice xs start end new
    → (take (start + length new) all ≡ take start xs ++ new) × (drop (start + length new) all ≡ drop end xs)
parts_put xs new all start end few is =
    let whole = is ∙ sym (append_assoc (take start xs) new (drop end xs)) in
    let long : length (take start xs ++ new) ≡ start + length new =
    length-append (take start xs) new ∙ ap (λ n. n + length new) (length-take-le start xs few) in (
      ap (take (start + length new)) whole ∙ take_at (take start xs ++ new) (drop end xs) (start + length new) long,
      ap (drop (start + length new)) whole ∙ drop_at (take start xs ++ new) (drop end xs) (start + length new) long,
    )

-- the blocks before those that are moved, and these
parts : (g : Over) (c : After-as_mut_slice g)
    → (take (c.args.from + c.len.result) c.as_mut_slice.result.now ≡ take c.args.from c.args.blocks.now.items ++ c.args.between.items)
    × (drop (c.args.from + c.len.result) c.as_mut_slice.result.now ≡ drop c.args.to c.args.blocks.now.items)
parts g c =
    let old = c.args.blocks.now.items in
    let new = c.args.between.items in
    let from = c.args.from in
    let inside = c.requires.inside in
    let ordered = c.requires.ordered in
    let is = c.as_mut_slice.ensures.value ∙ c.in_ok-put_in.ensures.ok in
    let len = c.len.ensures ∙ c.args.between.ok.0 in
    let it = parts_put old new c.as_mut_slice.result.now from c.args.to (omega (arith, inside, ordered)) is in
    (ap (λ n. take (from + n) c.as_mut_slice.result.now) len ∙ it.0, ap (λ n. drop (from + n) c.as_mut_slice.result.now) len ∙ it.1)

pub settle-requires-clause-inside : goal.settle-requires-clause-inside
settle-requires-clause-inside g c =
    let old = c.args.blocks.now.items in
    let new = c.args.between.items in
    let inside = c.requires.inside in
    let ordered = c.requires.ordered in
    let is = ap (λ l. length l) (c.as_mut_slice.ensures.value ∙ c.in_ok-put_in.ensures.ok)
    ∙ length-append (take c.args.from old) (new ++ drop c.args.to old) in
    let rest = length-append new (drop c.args.to old) in
    let first = length-take-le c.args.from old (omega (arith, inside, ordered)) in
    let len = c.len.ensures in
    let items = c.args.between.ok.0 in
    omega (arith, is, rest, first, len, items)

pub settle-requires-clause-moves : goal.settle-requires-clause-moves
settle-requires-clause-moves g c =
    subst (AllByRecursion (MovesBlock c.args.shift.now.from c.args.shift.now.to))
    (sym (parts g (goal.at.settle-requires-clause-moves g c).After-as_mut_slice).1) c.requires.moves

pub settle-requires-clause-few : goal.settle-requires-clause-few
settle-requires-clause-few g c =
    let front = take c.args.from c.args.blocks.now.items in
    let new = c.args.between.items in
    let rest = drop c.args.to c.args.blocks.now.items in
    let is = ap (λ bs. length (entries_in bs)) (c.as_mut_slice.ensures.value ∙ c.in_ok-put_in.ensures.ok)
    ∙ ap (λ es. length es) (entries_both front (new ++ rest)) ∙ length-append (entries_in front) (entries_in (new ++ rest)) in
    let both = ap (λ es. length es) (entries_both new rest) ∙ length-append (entries_in new) (entries_in rest) in
    let few = c.requires.few in
    omega (arith, is, both, few)

pub returns-clause-ok : goal.returns-clause-ok
returns-clause-ok g c =
    let shift = c.args.shift.now in
    let held = c.put_in.new.blocks in
    let moved = moved_block shift.from shift.to in
    let it = parts g (goal.at.returns-clause-ok g c).After-as_mut_slice in
    lent held.len c.settle.new.blocks held.items held.ok.0
    (c.settle.auto.blocks ∙ ap (λ l. length l) c.as_mut_slice.ensures.value)
    ∙ c.settle.ensures
    ∙ ap (numbered 0 0)
    (ap (λ l. l ++ map moved (drop (c.args.from + c.len.result) c.as_mut_slice.result.now)) it.0
    ∙ ap (λ l. take c.args.from c.args.blocks.now.items ++ c.args.between.items ++ map moved l) it.1)
