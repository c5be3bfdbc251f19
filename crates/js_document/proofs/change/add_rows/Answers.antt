use Rattle.std.proofs.Common.{◌≡◌, ◌-◌, ◌∙◌, Some, ap, arith, drop, sym, take, ◌+◌}
use Rattle.std.proofs.lemmas.List.{length-take-le}
use Rattle.std.proofs.lemmas.Option.{get_or_from_slice_get}
use Rattle.std.specs.Prelude.{slice_get}
use Rattle.js_session.specs.Shifted.{shifted_row}
use Rattle.js_document.specs.Changed.{EntryMayMove}
use Rattle.js_document.specs.Reading.{with_row}
use Rattle.js_document.proofs.EntryLoops.{live_from}
use Rattle.js_document.proofs.ListLemmas.{each_there, get_dropped, get_taken}
use Rattle.js_document.proofs.change.add_rows.Goals as goal

pub behind-entry-requires : goal.behind-entry-requires
behind-entry-requires g c =
    let some = c.loop-left-test.true in
    let few = c.loop-left.invariant.few in
    let all = c.requires.few in
    omega (arith, some, few, all)

pub add_row-requires : goal.add_row-requires
add_row-requires g c =
    let shift = c.args.shift.now in
    let high = c.args.high in
    let low = c.args.low in
    let back = c.args.entries.now.back in
    let at = c.loop-left.left - 1 in
    let some = c.loop-left-test.true in
    let few = c.loop-left.invariant.few in
    let place : low + (at - low) ≡ at = omega (arith, some) in
    each_there (EntryMayMove shift.from shift.to) (drop low (take high back)) (at - low) c.behind-entry.result
    c.requires.moves
    (get_dropped low (at - low) (take high back) ∙ ap (slice_get (take high back)) place
    ∙ get_taken high at back (omega (arith, some, few)) ∙ c.behind-entry.ensures)

pub loop-left-preserved : goal.loop-left-preserved
loop-left-preserved g c =
    let shift = c.args.shift.now in
    let high = c.args.high in
    let es = take high c.args.entries.now.back in
    let e = c.behind-entry.result in
    let some = c.loop-left-test.true in
    let few = c.loop-left.invariant.few in
    let long = length-take-le high c.args.entries.now.back c.requires.few in
    let there : slice_get es (c.loop-left.left - 1) ≡ Some e =
    get_taken high (c.loop-left.left - 1) c.args.entries.now.back (omega (arith, some, few)) ∙ c.behind-entry.ensures in
    record {
      from = omega (arith, some);
      few = omega (arith, few);
      tokens =
          live_from shift.from shift.to es c.loop-left.left e c.args.tokens.now c.loop-left.tokens c.add_row.new.tokens
          (omega (arith, some)) (omega (arith, few, long)) c.loop-left.invariant.tokens
          (c.in_ok-add_row.ensures
          ∙ ap (λ x. with_row c.loop-left.tokens (shifted_row shift.from shift.to x.row))
          (sym (get_or_from_slice_get es (c.loop-left.left - 1) e e there)));
    }
