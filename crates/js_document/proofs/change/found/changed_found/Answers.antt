use Rattle.std.proofs.Common.{◌+◌, ◌∙◌, length, subst, sym}
use Rattle.std.specs.List.{AllByRecursion}
use Rattle.js_document.proofs.ChangedFound.{found_change, old_moves}
use Rattle.js_document.proofs.change.found.changed_found.Goals as goal

pub changed_range-requires-clause-may_move : goal.changed_range-requires-clause-may_move
changed_range-requires-clause-may_move g c =
    let edit = c.args.edit.now in
    let Item = g.L.Item.Placed in
    subst (AllByRecursion (Item.MayMove edit.end (edit.start + length edit.text.now)))
    (sym (c.as_slice.ensures ∙ c.in_ok-old.ensures))
    (old_moves g.L.FoundList.items Item.shifted g.met.L.FoundList.shifted_items edit.start edit.end edit.text.now
    c.args.entries.now c.args.left Item.MayMove g.met.L.FoundList.moves c.requires.fits)

pub returns : goal.returns
returns g c = λ pad may place.
    let edit = c.args.edit.now in
    let Item = g.L.Item.Placed in
    found_change g.L.FoundList.items Item.shifted g.met.L.FoundList.shifted_items edit.start edit.end edit.text.now
    c.args.entries.now c.args.left pad may c.args.read.now Item.EndsBy Item.StartsFrom g.met.L.FoundList.ends
    g.met.L.FoundList.starts c.args.start c.as_slice.result.now c.as_slice-2.result.now c.changed_range.result place
    (c.as_slice.ensures ∙ c.in_ok-old.ensures) (c.as_slice-2.ensures ∙ c.in_ok-new.ensures) c.changed_range.ensures
