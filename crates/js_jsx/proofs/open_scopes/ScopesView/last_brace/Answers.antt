use Rattle.std.proofs.Common.{sym, ◌∙◌, ap, slice_get}
use Rattle.js_jsx.proofs.StackLemmas.{first_behind}
use Rattle.js_jsx.proofs.open_scopes.ScopesView.last_brace.Goals as goal

pub returns : goal.returns
returns c =
    c.at.ensures.is ∙ sym (first_behind c.above_brace.result c.args.self.now)
    ∙ ap (λ scopes. slice_get scopes 0) c.above_brace.ensures
