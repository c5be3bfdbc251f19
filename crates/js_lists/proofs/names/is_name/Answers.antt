use Rattle.std.proofs.Common.{false, ◌∙◌, ap}
use Rattle.std.specs.Prelude.{slice_index_or}
use Rattle.js_lists.proofs.names.is_name.Goals as goal

pub returns : goal.returns
returns c =
    ap (λ n. slice_index_or c.names.result.now n false) c.kind_number.ensures ∙ c.names.ensures.tells c.args.token.now.kind
