use Rattle.std.proofs.Common.{[], ◌∙◌, ap, arith, sym}
use Rattle.std.proofs.lemmas.List.{take_all}
use Rattle.std.proofs.lemmas.Option.{get_or_from_slice_get}
use Rattle.js_document.specs.Gap.{entries_of, rows_of}
use Rattle.js_document.proofs.EntryLoops.{copied_up_to}
use Rattle.js_document.proofs.gather.rows_of.Goals as goal

pub at-entry-requires : goal.at-entry-requires
at-entry-requires g c =
    let less = c.loop-index-test.true in
    let all = c.len-end.ensures in
    omega (arith, less, all)

pub loop-index-preserved : goal.loop-index-preserved
loop-index-preserved g c =
    let es = entries_of c.args.entries.now in
    let index = c.loop-index.index in
    let e = c.at-entry.result in
    let less = c.loop-index-test.true in
    let all = c.len-end.ensures in
    record {
      few = omega (arith, less, all);
      rows =
          copied_up_to es index e [] c.loop-index.rows c.push.new.self c.in_ok-copied_row.field-0 (omega (arith, less, all))
          (sym (get_or_from_slice_get es index e e c.at-entry.ensures)) c.loop-index.invariant.rows
          c.in_ok-push.ensures.ok c.in_ok-copied_row.ensures;
    }

pub returns : goal.returns
returns g c =
    let es = entries_of c.args.entries.now in
    let past = c.loop-index-test.false in
    let all = c.len-end.ensures in
    c.loop-index.invariant.rows ∙ ap (λ xs. rows_of xs) (take_all c.loop-index.index es (omega (arith, past, all)))
