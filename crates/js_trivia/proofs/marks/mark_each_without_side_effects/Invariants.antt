use Rattle.std.proofs.Common.{◌≡◌, ◌++◌, map, take, drop}
use Rattle.js_trivia.specs.Marks.{mark, no_side_effects_applied}
use Rattle.js_trivia.proofs.marks.mark_each_without_side_effects.Given as goal

abbrev pub invariant-loop-comment : goal.invariant-loop-comment
invariant-loop-comment l =
    l.comments ≡ map (mark no_side_effects_applied) (take l.comment-index l.initial.comments) ++ drop l.comment-index l.initial.comments
