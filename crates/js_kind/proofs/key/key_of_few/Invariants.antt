use Rattle.std.proofs.Common.{◌≡◌, ◌≤◌, length, drop}
use Rattle.js_kind.specs.Keywords.{bytes_number}
use Rattle.js_kind.proofs.key.key_of_few.Given as goal

abbrev pub invariant-loop-left : goal.invariant-loop-left
invariant-loop-left l = record {
  within : l.left ≤ length l.bytes;
  number : l.key ≡ bytes_number (drop l.left l.bytes);
}

abbrev pub decreases-loop-left : goal.decreases-loop-left
decreases-loop-left l = l.left
