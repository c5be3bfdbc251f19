use Rattle.std.proofs.Common.{refl}
use Rattle.js_kind.specs.Kinds.{is_identifier_name}
use Rattle.js_choose.proofs.KindTables.{tells_kinds}
use Rattle.js_lists.proofs.names.names.Goals as goal

pub returns : goal.returns
returns c = tells_kinds _ _ (unfold is_identifier_name in refl)
