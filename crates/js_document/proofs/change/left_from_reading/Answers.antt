use Rattle.std.proofs.Common.{◌≡◌, ◌-◌, ◌∙◌, Some, arith, sym, take}
use Rattle.std.proofs.lemmas.List.{length-take-le}
use Rattle.std.proofs.lemmas.Option.{get_or_from_slice_get}
use Rattle.std.specs.Prelude.{slice_get}
use Rattle.js_document.proofs.EntryLoops.{last_reads}
use Rattle.js_document.proofs.ListLemmas.{get_taken}
use Rattle.js_document.proofs.change.left_from_reading.Goals as goal

pub behind-entry-requires : goal.behind-entry-requires
behind-entry-requires g c =
    let some = c.loop-reading-test.true in
    let few = c.loop-reading.invariant in
    let all = c.requires in
    omega (arith, some, few, all)

pub returns-then-reads_on-clause-reading : goal.returns-then-reads_on-clause-reading
returns-then-reads_on-clause-reading g c =
    let left = c.args.left in
    let reading = c.loop-reading.reading in
    let back = c.args.entries.now.back in
    let e = c.behind-entry.result in
    let some = c.loop-reading-test.true in
    let few = c.loop-reading.invariant in
    let long = length-take-le left back c.requires in
    let there : slice_get (take left back) (reading - 1) ≡ Some e =
    get_taken left (reading - 1) back (omega (arith, some, few)) ∙ c.behind-entry.ensures in
    last_reads (take left back) reading e (omega (arith, some)) (omega (arith, few, long))
    (sym (get_or_from_slice_get (take left back) (reading - 1) e e there))
    (let yes = c.if-reads_on.true in let is = c.reads_on.ensures in cc)
