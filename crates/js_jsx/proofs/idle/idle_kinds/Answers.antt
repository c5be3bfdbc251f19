use Rattle.std.proofs.Common.{refl}
use Rattle.js_jsx.specs.Classes.{class_of}
use Rattle.js_choose.proofs.KindTables.{tells_kinds}
use Rattle.js_jsx.proofs.idle.idle_kinds.Goals as goal

pub returns : goal.returns
returns c = tells_kinds _ _ (unfold class_of in refl)
