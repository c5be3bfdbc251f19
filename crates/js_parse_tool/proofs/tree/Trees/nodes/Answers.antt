use Rattle.std.proofs.Common.{ap, sym}
use Rattle.js_parse_tool.specs.Trees.{TreesState}
use Rattle.js_parse_tool.proofs.TreeSteps.{kept_as}
use Rattle.js_parse_tool.proofs.tree.Trees.nodes.Goals as goal

pub returns-clause-kept : goal.returns-clause-kept
returns-clause-kept c =
    kept_as _ _ _ _ _ _ c.self.invariant (sym (ap (λ (s : TreesState). s.text) c.self.view_is)) c.as_slice.ensures
    (sym (ap (λ (s : TreesState). s.roots) c.self.view_is))
