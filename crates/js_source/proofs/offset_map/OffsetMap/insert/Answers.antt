use Rattle.std.proofs.Common.{subst}
use Rattle.js_source.specs.Offsets.{IsAt, AreBelow, AreOthers}
use Rattle.js_source.proofs.Offsets.{others_from_below, holds_pushed, holds_behind, holds_set}
use Rattle.js_source.proofs.offset_map.OffsetMap.insert.Goals as goal

-- an offset past all others is put behind them
pub returns-then-is_past-clause-ok : goal.returns-then-is_past-clause-ok
returns-then-is_past-clause-ok g c =
    let ordered = c.self.inside.ordered.items in
    let below = subst (λ xs. AreBelow xs c.args.offset) c.deref.ensures.value c.if-is_past.ensures in
    let pushed = holds_pushed c.self.inside.others.entries c.args.offset c.args.value ordered in
    rw (c.in_ok-push.ensures.items, ← c.self.view_is) (pushed (others_from_below ordered c.args.offset below))

-- the value at the offset is replaced
pub returns-in-Some-clause-ok : goal.returns-in-Some-clause-ok
returns-in-Some-clause-ok g c =
    let is_at = subst (λ xs. IsAt xs c.args.offset c.in-Some.at) c.deref-2.ensures.value c.in-Some.ensures.found in
    let set = holds_set c.self.inside.ordered.items c.self.invariant c.args.offset c.in-Some.at is_at in
    rw (← c.self.view_is) (set c.self.inside.others.entries c.args.value)

-- an offset between others is put into the map
pub returns-clause-ok : goal.returns-clause-ok
returns-clause-ok g c =
    let others = subst (λ xs. AreOthers xs c.args.offset) c.deref-2.ensures.value c.in_default.ensures.absent in
    let put = holds_behind c.self.inside.others.entries c.args.offset c.args.value c.insert.new.self.entries in
    rw (← c.self.view_is) (put c.self.inside.ordered.items others c.in_ok-insert.ensures.updates.0)
