use Rattle.std.proofs.Common.{◌≡◌, ℕ, List, ◌-◌, ◌≤◌, ◌++◌, ◌∙◌, ap, append-nil, arith, drop, length, map, take}
use Rattle.std.proofs.lemmas.List.{drop_all, length-append, length-drop, length-map, take_all}
use Rattle.js_document.specs.Blocks.{entries_in, moved_block}
use Rattle.js_document.specs.Gap.{shifted_entry}
use Rattle.js_document.proofs.BlockLemmas.{entries_both, entries_moved, entries_parts}
use Rattle.js_document.proofs.blocks.numbered.settle.Goals as goal
use borrow.Rule.Slice.PartMut.{put_mid}

-- what was lent from an index on, and was mapped
pub mapped_from : {A : Type 0} (f : A → A) (xs ys : List A) (from : ℕ) → from ≤ length xs
    → ys ≡ map f (take (length xs - from) (drop from xs))
    → put_mid from (length xs - from) xs ys ≡ take from xs ++ map f (drop from xs)
mapped_from f xs ys from few is =
    let n = length xs - from in
    let long = length-drop from xs in
    ap (λ l. take from xs ++ (l ++ drop n (drop from xs)))
    (is ∙ ap (map f) (take_all n (drop from xs) (omega (arith, long))))
    ∙ ap (λ l. take from xs ++ (map f (drop from xs) ++ l)) (drop_all n (drop from xs) (omega (arith, long)))
    ∙ ap (λ l. take from xs ++ l) (append-nil (map f (drop from xs)))

pub number_blocks-requires : goal.number_blocks-requires
number_blocks-requires g c =
    let shift = c.args.shift.now in
    let old = c.args.blocks.now in
    let front = take c.args.behind old in
    let rest = drop c.args.behind old in
    let moved = moved_block shift.from shift.to in
    let now = ap (λ bs. length (entries_in bs))
    (mapped_from moved old c.move_blocks.new.blocks c.args.behind c.requires.inside c.move_blocks.ensures) in
    let both = ap (λ es. length es) (entries_both front (map moved rest))
    ∙ length-append (entries_in front) (entries_in (map moved rest)) in
    let same = ap (λ es. length es) (entries_moved shift.from shift.to rest)
    ∙ length-map (entries_in rest) (shifted_entry shift.from shift.to) in
    let all = ap (λ es. length es) (entries_parts c.args.behind old) ∙ length-append (entries_in front) (entries_in rest) in
    let few = c.requires.few in
    omega (arith, now, both, same, all, few)
