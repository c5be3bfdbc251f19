use Rattle.std.proofs.Common.{◌-◌, ◌++◌, ◌∙◌, ap, arith, drop, length, take}
use Rattle.js_document.specs.Found.{found_in}
use Rattle.js_document.specs.Gap.{entries_of, rows_of}
use Rattle.js_document.proofs.ChangedFound.{rows_gone}
use Rattle.js_document.proofs.RowPlaces.{length_around}
use Rattle.js_document.proofs.change.found.old_found.Goals as goal

pub overflow_sub-end : goal.overflow_sub-end
overflow_sub-end g c =
    let long = length_around c.args.entries.now in
    let few = c.requires in
    let all = c.len.ensures in
    omega (arith, long, few, all)

pub add_found_from-requires-clause-ordered : goal.add_found_from-requires-clause-ordered
add_found_from-requires-clause-ordered g c =
    let long = length_around c.args.entries.now in
    let few = c.requires in
    let all = c.len.ensures in
    let front = c.front_len.ensures in
    omega (arith, long, few, all, front)

pub returns : goal.returns
returns g c =
    let gap = c.args.entries.now in
    let es = entries_of gap in
    let all = c.len.ensures in
    let front = c.front_len.ensures in
    c.in_ok-add_found_from.ensures
    ∙ ap
    (λ l. l ++ found_in g.L.FoundList.items
    (rows_of (take (c.len.result - c.args.left - c.front_len.result) (drop c.front_len.result es)))) c.new_in-items.ensures
    ∙ ap (λ n. found_in g.L.FoundList.items (rows_of (take (n - c.args.left - c.front_len.result) (drop c.front_len.result es)))) all
    ∙ ap (λ n. found_in g.L.FoundList.items (rows_of (take (length es - c.args.left - n) (drop n es)))) front
    ∙ ap (λ rows. found_in g.L.FoundList.items rows) (rows_gone gap c.args.left c.requires)
