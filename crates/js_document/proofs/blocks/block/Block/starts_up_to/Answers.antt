use Rattle.std.proofs.Common.{◌≡◌, ◌+◌, ◌≤◌, arith, false, leb, length, rules, subst, sym, true}
use Rattle.std.specs.List.Sorted.{IsPartitionPoint, IsPartitionedBy}
use Rattle.std.proofs.lemmas.List.Sorted.{IsPartitionPoint-from_clause}
use Rattle.js_document.specs.Gap.{AreInOrder, rows_of}
use Rattle.js_document.specs.LiveTokens.{StartUpTo}
use Rattle.js_document.proofs.BlockSteps.{held_above, held_parted, held_up_to}
use Rattle.js_document.proofs.RowPlaces.{front_point}
use Rattle.js_document.proofs.blocks.block.Block.starts_up_to.Goals as goal

pub returns-in-Some : goal.returns-in-Some
returns-in-Some g c =
    let es = c.self.inside.entries.items in
    let shift = c.self.inside.shift in
    let place = c.args.place in
    let bound = c.in-Some.behind + shift.from in
    let order = subst (λ b. AreInOrder (rows_of b.entries)) (sym c.self.view_is) c.requires in
    let same = c.as_slice.ensures.value in
    let behind = c.in-Some.ensures in
    subst (λ b. StartUpTo place b.entries c.partition_point.result) c.self.view_is
    (held_up_to shift.from shift.to es c.self.invariant.moves order place bound c.partition_point.result
    (omega (arith, behind.0)) (omega (arith, behind.1))
    (front_point es bound c.partition_point.result
    (subst (λ xs. c.partition_point.result ≤ length xs) same c.partition_point.ensures.bound)
    (subst
    (λ xs. IsPartitionPoint (λ e. leb e.row.token.start bound ≡ true) (λ e. leb e.row.token.start bound ≡ false) xs
    c.partition_point.result) same
    (IsPartitionPoint-from_clause (λ e. leb e.row.token.start bound) c.as_slice.result.now c.partition_point.result
    c.partition_point.ensures.partitioned
    (subst (IsPartitionedBy (λ e. leb e.row.token.start bound)) (sym same)
    (held_parted shift.from shift.to es c.self.invariant.moves order bound))
    (λ a r f k. search rules)))))

pub returns-in-None : goal.returns-in-None
returns-in-None g c =
    let es = c.self.inside.entries.items in
    let shift = c.self.inside.shift in
    let order = subst (λ b. AreInOrder (rows_of b.entries)) (sym c.self.view_is) c.requires in
    let none = c.in-None.ensures in
    subst (λ b. StartUpTo c.args.place b.entries 0) c.self.view_is
    (held_above shift.from shift.to es c.self.invariant.moves order c.args.place (omega (arith, none)))
