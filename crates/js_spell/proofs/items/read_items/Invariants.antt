use Rattle.std.proofs.Common.{◌≡◌, ◌≤◌, false, length}
use Rattle.js_source.specs.Source.{rest}
use Rattle.js_spell.specs.Strings.{ReadsItems, ordinary_here}
use Rattle.js_spell.proofs.items.read_items.Given as goal

-- The items so far were read, and no character that stands for itself is next.
abbrev pub invariant-items : goal.invariant-items
invariant-items l = record {
  read : ReadsItems l.fn.literal l.fn.token.start l.fn.source l.source l.fn.text l.text l.fn.errors l.errors l.has_bad;
  marked : ordinary_here l.fn.literal (rest l.source) ≡ false;
  onward : l.fn.source.place ≤ l.source.place;
}

abbrev pub decreases-items : goal.decreases-items
decreases-items l = length (rest l.source)
