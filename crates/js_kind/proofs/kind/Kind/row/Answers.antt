use Rattle.js_kind.proofs.KindNumbers.{row_at}
use Rattle.js_kind.proofs.kind.Kind.row.Goals as goal

pub returns : goal.returns
returns c = row_at _ _ c.args.self _ c.rows.ensures c.number.ensures
