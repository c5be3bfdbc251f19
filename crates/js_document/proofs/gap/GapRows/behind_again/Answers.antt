use Rattle.std.proofs.Common.{◌+◌, ap, arith, false, refl}
use Rattle.std.specs.Option.{option_map_or}
use Rattle.std.proofs.lemmas.List.{length-map}
use Rattle.std.proofs.lemmas.Option.{slice_get_past}
use Rattle.js_document.specs.Gap.{entries_of, reads_again, rows_of}
use Rattle.js_document.proofs.RowPlaces.{taken_all, taken_first, taken_more}
use Rattle.js_document.proofs.gap.GapRows.behind_again.Goals as goal

pub loop-next-init : goal.loop-next-init
loop-next-init g c = record {
  above = omega arith;
  few = omega arith;
  taken = taken_first (rows_of (entries_of c.args.self.now)) c.args.index (c.args.index + 1) refl;
}

pub returns-then-not-is_read_again-clause-tokens : goal.returns-then-not-is_read_again-clause-tokens
returns-then-not-is_read_again-clause-tokens g c =
    taken_all (rows_of (entries_of c.args.self.now)) c.args.index c.loop-next.next
    (let no = c.if-not-is_read_again.true in let is = c.is_read_again.ensures in cc) c.loop-next.invariant.taken

pub loop-next-preserved : goal.loop-next-preserved
loop-next-preserved g c =
    let rows = rows_of (entries_of c.args.self.now) in
    let long = length-map (entries_of c.args.self.now) (λ e. e.row) in
    let above = c.loop-next.invariant.above in
    let less = c.loop-next-test.true in
    let all = c.len-end.ensures in
    record {
      above = omega (arith, above);
      few = omega (arith, less, all);
      taken =
          taken_more rows c.args.index c.loop-next.next (omega (arith, above)) (omega (arith, less, all, long))
          (let yes = c.if-not-is_read_again.false in let is = c.is_read_again.ensures in cc) c.loop-next.invariant.taken;
    }

pub returns-clause-tokens : goal.returns-clause-tokens
returns-clause-tokens g c =
    let rows = rows_of (entries_of c.args.self.now) in
    let long = length-map (entries_of c.args.self.now) (λ e. e.row) in
    let past = c.loop-next-test.false in
    let all = c.len-end.ensures in
    taken_all rows c.args.index c.loop-next.next
    (ap (λ o. option_map_or reads_again o false)
    (slice_get_past rows c.loop-next.next (omega (arith, past, all, long))))
    c.loop-next.invariant.taken
