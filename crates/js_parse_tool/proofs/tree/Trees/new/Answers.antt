use Rattle.std.proofs.lemmas.Str.{IsCharBoundary-start}
use Rattle.js_parse_tool.proofs.TreeSteps.{kept_none}
use Rattle.js_parse_tool.proofs.tree.Trees.new.Goals as goal

pub invariant_of-result : goal.invariant_of-result
invariant_of-result c =
    kept_none c.args.source.now _ _ (IsCharBoundary-start c.args.source.now c.utf8.source) c.new_in.ensures
    c.new_in-2.ensures
