use Rattle.std.proofs.Common.{◌++◌, [], ◌∷◌, length, take, refl, subst}
use Rattle.js_parse_tool.specs.Trees.{AreKept, TreesState}
use Rattle.js_parse_tool.specs.declared.node.Node.{Node}
use Rattle.js_parse_tool.proofs.TreeSteps.{kept_behind}
use Rattle.js_parse_tool.proofs.tree.Trees.close.Goals as goal

pub add-requires : goal.add-requires
add-requires c =
    let n : Node =
    record { kind = c.args.kind; span = c.fitting.result; children = length c.split_at.result.1.now } in
    subst
    (λ (s : TreesState). AreKept s.text (s.nodes ++ n ∷ []) (take c.min-mark.result s.roots ++ n.span ∷ []))
    c.self.view_is
    (kept_behind c.self.inside.source.now c.self.inside.nodes c.self.inside.roots _ _ _ c.min-mark.result n
    c.self.invariant c.as_slice.ensures c.split_at.ensures.front c.split_at.ensures.back c.fitting.ensures refl)
