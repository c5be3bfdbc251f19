use Rattle.std.proofs.Common.{subst}
use Rattle.js_text.specs.declared.value.RowValue.TheVariants.{Slice}
use Rattle.js_lists.specs.Lists.{IsTold}
use Rattle.js_lists.proofs.lists.is_text.Goals as goal

pub returns-in-Some : goal.returns-in-Some
returns-in-Some c =
    λ same. subst (λ s. IsTold c.args.token.now (Slice s)) (c.is_same.ensures same) c.in-Some.ensures
