use Rattle.std.proofs.Common.{◌≡◌, ◌++◌, map, take, drop}
use Rattle.js_trivia.specs.Marks.{mark, pure_applied}
use Rattle.js_trivia.proofs.marks.mark_each_pure.Given as goal

abbrev pub invariant-loop-comment : goal.invariant-loop-comment
invariant-loop-comment l =
    l.comments ≡ map (mark pure_applied) (take l.comment-index l.initial.comments) ++ drop l.comment-index l.initial.comments
