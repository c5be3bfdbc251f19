use Rattle.std.proofs.Common.{◌≡◌, ◌+◌, ◌-◌, ◌∙◌, Some, ap, arith, drop, sym, take, ◌++◌}
use Rattle.std.proofs.lemmas.List.{length-drop}
use Rattle.std.proofs.lemmas.Option.{get_or_from_slice_get}
use Rattle.std.specs.Prelude.{slice_get}
use Rattle.js_document.specs.Found.{found_in}
use Rattle.js_document.specs.Gap.{entries_of, rows_of}
use Rattle.js_document.proofs.ChangedFound.{added_more}
use Rattle.js_document.proofs.ListLemmas.{get_dropped}
use Rattle.js_document.proofs.change.found.add_found_from.Goals as goal

pub at-entry-requires : goal.at-entry-requires
at-entry-requires g c =
    let less = c.loop-index-test.true in
    let few = c.requires.inside in
    omega (arith, less, few)

pub loop-index-preserved : goal.loop-index-preserved
loop-index-preserved g c =
    let es = entries_of c.args.entries.now in
    let start = c.args.start in
    let index = c.loop-index.index in
    let e = c.at-entry.result in
    let from = c.loop-index.invariant.from in
    let less = c.loop-index-test.true in
    let few = c.requires.inside in
    let long = length-drop start es in
    let place : start + (index - start) ≡ index = omega (arith, from) in
    let there : slice_get (drop start es) (index - start) ≡ Some e =
    get_dropped start (index - start) es ∙ ap (slice_get es) place ∙ c.at-entry.ensures in
    let next : index - start + 1 ≡ index + 1 - start = omega (arith, from) in
    record {
      from = omega (arith, from);
      few = omega (arith, less);
      items =
          added_more g.L.FoundList.items (drop start es) (index - start) e c.args.items.now c.loop-index.items
          c.add_to.new.items (omega (arith, from, less, few, long))
          (sym (get_or_from_slice_get (drop start es) (index - start) e e there)) c.loop-index.invariant.items
          c.in_ok-add_to.ensures
          ∙ ap (λ n. c.args.items.now ++ found_in g.L.FoundList.items (rows_of (take n (drop start es)))) next;
    }
