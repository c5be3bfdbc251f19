use Rattle.std.proofs.Common.{slice_get, ap, ◌∙◌}
use Rattle.js_lines.proofs.LineLemmas.{of_view, some_bounded}
use Rattle.js_lines.proofs.table.LineTable.line_start.Goals as goal

pub returns-clause-boundary : goal.returns-clause-boundary
returns-clause-boundary c =
    let are = of_view _ _ _ _ c.self.view_is c.self.invariant in
    some_bounded c.args.self.now.ends c.args.self.now.text c.self.inside.starts.items c.args.line are c.start_at.result
    (c.start_at.ensures
    ∙ ap (λ starts. slice_get starts c.args.line) (c.deref.ensures.value ∙ are.starts_are))
