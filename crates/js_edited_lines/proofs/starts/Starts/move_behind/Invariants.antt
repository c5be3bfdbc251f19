use Rattle.std.proofs.Common.{◌≡◌, length, min}
use Rattle.js_edited_lines.specs.Starts.{all_starts}
use Rattle.js_edited_lines.proofs.starts.Starts.move_behind.Given as goal

-- The starts stay, and no more of them move than have to.
abbrev pub invariant-loop-self : goal.invariant-loop-self
invariant-loop-self l = record {
  starts : all_starts l.self ≡ all_starts l.fn.self;
  bytes : l.self.bytes ≡ l.fn.self.bytes;
  least : min l.most (length l.self.before.items) ≡ min l.most (length l.fn.self.before.items);
}

abbrev pub decreases-loop-self : goal.decreases-loop-self
decreases-loop-self l = length l.self.before.items
