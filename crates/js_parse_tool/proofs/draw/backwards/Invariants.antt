use Rattle.std.proofs.Common.{◌≡◌, ◌+◌, ◌≤◌, ◌++◌, length, replicate, reverse}
use Rattle.std.specs.List.{All}
use Rattle.js_parse_tool.proofs.Drawing.{walk}
use Rattle.js_parse_tool.proofs.draw.backwards.Given as goal

-- The lines so far and those of the rest are those of all nodes. No tree stands deeper than there are lines.
abbrev pub invariant-nodes : goal.invariant-nodes
invariant-nodes l = record {
  lines : l.lines.items ++ walk (reverse l.rest) l.depths.items ≡ walk (reverse l.nodes) (replicate l.count 0);
  deepest : All (λ d. d ≤ length l.lines.items) l.depths.items;
  left : length l.rest + length l.lines.items ≡ length l.nodes;
}

abbrev pub decreases-nodes : goal.decreases-nodes
decreases-nodes l = length l.rest
