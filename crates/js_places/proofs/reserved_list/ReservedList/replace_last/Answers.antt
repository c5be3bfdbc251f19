use Rattle.std.proofs.Common.{◌≡◌, ◌<◌, ◌≤◌, ◌∙◌, arith, length, take, refl, slice_set, suc}
use Rattle.std.proofs.lemmas.List.{length-take-le}
use Rattle.std.proofs.Math.Seq.{take-set-lt}
use Rattle.std.specs.Mem.Slots.{slots_items, slots_counts}
use Rattle.js_text.specs.Lists.{with_last}
use Rattle.js_text.proofs.ListLemmas.{with_last-set}
use Rattle.js_places.proofs.reserved_list.ReservedList.replace_last.Goals as goal

pub returns-in-Some : goal.returns-in-Some
returns-in-Some g c =
    let row = c.self.inside.block.row in
    let xs = slots_items row in
    let used = c.self.inside.used in
    let last = c.in-Some.last in
    let within : used ≤ length xs = omega (arith, c.self.invariant.0, c.self.invariant.1, (slots_counts row).0) in
    let before : last < used = omega (arith, c.in-Some.ensures) in
    let long : length (take used xs) ≡ suc last =
    omega (arith, c.in-Some.ensures, length-take-le used xs within) in
    let items : take used (slice_set xs last c.args.item) ≡ with_last (take used xs) c.args.item =
    take-set-lt used xs last c.args.item before
    ∙ with_last-set (take used xs) last c.args.item long in
    rw (← c.self.view_is, c.put.ensures.items, c.take.ensures.items, items) refl
