use Rattle.std.proofs.Common.{◌≡◌, List, ◌++◌, [], ◌∷◌, take, ap, refl, ◌∙◌}
use Rattle.js_parse_tool.specs.Trees.{TreesState}
use Rattle.js_parse_tool.proofs.TreeSteps.{kept_as, kept_none}
use Rattle.js_parse_tool.proofs.tree.Trees.add.Goals as goal

none_taken : {A : Type 0} (xs : List A) → take 0 xs ≡ []
none_taken [] = refl
none_taken (x ∷ xs) = refl

pub invariant_of-self-in-Ok : goal.invariant_of-self-in-Ok
invariant_of-self-in-Ok c =
    kept_as _ _ _ _ _ _ c.requires (ap (λ (s : TreesState). s.text) c.self.view_is)
    (c.in_ok-push.ensures.ok ∙ ap (λ (s : TreesState). s.nodes ++ c.args.node ∷ []) c.self.view_is)
    (c.in-Ok.ensures.ok
    ∙ ap (λ rs. rs ++ c.args.node.span ∷ [])
    (c.truncate.ensures ∙ ap (λ (s : TreesState). take c.args.mark s.roots) c.self.view_is))

pub invariant_of-self-in-Err : goal.invariant_of-self-in-Err
invariant_of-self-in-Err c =
    kept_none c.self.inside.source.now _ _ c.self.invariant.start_place
    (c.truncate-in-Err.ensures ∙ none_taken c.push.new.self)
    (c.truncate-in-Err-2.ensures ∙ none_taken c.push-2.new.self)
