use Rattle.std.proofs.Common.{false, ◌∙◌, ap}
use Rattle.std.specs.Prelude.{slice_index_or}
use Rattle.js_jsx.proofs.idle.IdleKinds.is_idle.Goals as goal

pub returns : goal.returns
returns c =
    ap (λ n. slice_index_or c.args.self.now.table n false) c.kind_number.ensures
    ∙ c.args.self.now.told.tells c.args.token.now.kind
