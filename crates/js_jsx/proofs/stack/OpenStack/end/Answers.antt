use Rattle.std.proofs.Common.{◌-◌, ◌∙◌, ap, drop, reverse, take}
use Rattle.js_jsx.proofs.StackLemmas.{reverse_kept}
use Rattle.js_jsx.proofs.stack.OpenStack.end.Goals as goal

pub returns : goal.returns
returns c =
    let items = c.self.inside.items in
    ap reverse c.truncate.ensures
    ∙ ap (λ n. reverse (take n items)) (c.saturating_sub-left.ensures ∙ ap (λ n. n - c.args.count) c.len.ensures)
    ∙ reverse_kept c.args.count items ∙ ap (drop c.args.count) c.self.view_is
