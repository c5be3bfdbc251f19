use Rattle.std.proofs.Common.{◌+◌, length}
use Rattle.js_document.proofs.ChangeLemmas.{range_between}
use Rattle.js_document.proofs.change.compared.changed_range.Goals as goal

pub returns : goal.returns
returns g c =
    let edit = c.args.edit.now in
    let shift = c.shift_of-shift.result in
    range_between g.T.Placed.EndsBy g.T.Placed.StartsFrom g.T.Placed.shifted c.args.start edit.start edit.end
    (edit.start + length edit.text.now) c.args.old.now c.args.new.now c.same_before-before.result c.same_behind-behind.result
    shift.from shift.to
    (record {
      start = c.in_ok-sum_of.field-0;
      old_end = c.in_ok-sum_of-2.field-0;
      new_end = c.in_ok-sum_of-3.field-0;
    })
    c.same_before-before.ensures.common c.same_behind-behind.ensures.common c.shift_of-shift.ensures.from
    c.shift_of-shift.ensures.to c.in_ok-sum_of.ensures c.in_ok-sum_of-2.ensures c.in_ok-sum_of-3.ensures
