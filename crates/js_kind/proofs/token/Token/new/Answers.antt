use Rattle.std.proofs.Common.{rules}
use Rattle.js_kind.specs.TokenParts.{TokenParts, default_parts}
use Rattle.js_kind.proofs.Packing.{holds_parts}
use Rattle.js_kind.proofs.token.Token.new.Goals as goal

-- the parts of the new token
abbrev made : goal.After-pack → TokenParts
made c = record default_parts {
  start = c.args.span.start;
  end = c.args.span.end;
  kind = c.args.kind;
  is_on_new_line = c.args.is_on_new_line;
}

pub invariant_of-result : goal.invariant_of-result
invariant_of-result c = (holds_parts (made c) c.pack.result c.pack.ensures (search rules) (search rules)).only

pub returns : goal.returns
returns c = (holds_parts (made c) c.pack.result c.pack.ensures (search rules) (search rules)).parts
