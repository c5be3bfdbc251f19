use Rattle.js_kind.proofs.KindNumbers.{tag_is_number}
use Rattle.js_kind.proofs.kind.Kind.number.Goals as goal

pub returns : goal.returns
returns c = tag_is_number c.args.self
