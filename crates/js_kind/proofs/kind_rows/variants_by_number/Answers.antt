use Rattle.std.proofs.Common.{refl}
use Rattle.js_kind.proofs.KindNumbers.{kind_at_number}
use Rattle.js_kind.proofs.kind_rows.variants_by_number.Goals as goal

pub returns : goal.returns
returns c = (refl, kind_at_number)
