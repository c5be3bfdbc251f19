use Rattle.std.proofs.Common.{◌≡◌, ◌≤◌, ◌+◌, ◌++◌, length, take}
use Rattle.js_places.proofs.reserved_list.ReservedList.extend_from_slice.Given as goal

-- So many items were added, each in a place that was free.
abbrev pub invariant-loop-item : goal.invariant-loop-item
invariant-loop-item g l =
    (l.self.items ≡ l.initial.self.items ++ take l.item-index l.items)
    × (l.self.free + l.item-index ≡ l.initial.self.free) × (length l.items ≤ l.initial.self.free)
