use Rattle.std.proofs.Common.{refl}
use Rattle.js_choose.proofs.KindTables.{tells_kinds}
use Rattle.js_auto.proofs.notable.notable.Goals as goal

pub returns : goal.returns
returns c = tells_kinds _ _ refl
