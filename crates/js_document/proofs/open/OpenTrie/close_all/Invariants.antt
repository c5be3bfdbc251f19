use Rattle.std.proofs.Common.{◌≡◌, ℕ, ◌-◌, ◌≤◌, List, drop}
use Rattle.js_document.specs.Trie.{IsOpen, opened}
use Rattle.js_document.proofs.open.OpenTrie.close_all.Given as goal

-- All but those that are left of the count are closed.
abbrev pub invariant-loop-left : goal.invariant-loop-left
invariant-loop-left l = record {
  few : l.left ≤ l.count;
  is : (scopes : List ℕ) → IsOpen l.self l.link scopes → IsOpen l.self l.below (drop (l.count - l.left) scopes);
  told : opened l.self l.below ≡ drop (l.count - l.left) (opened l.self l.link);
}

abbrev pub decreases-loop-left : goal.decreases-loop-left
decreases-loop-left l = l.left
