use Rattle.std.proofs.Common.{◌≡◌, ◌++◌, map, take, drop}
use Rattle.js_trivia.specs.Attachment.{attach_alone}
use Rattle.js_trivia.proofs.attaching.attach_each_of_many.Given as goal

abbrev pub invariant-loop-comment : goal.invariant-loop-comment
invariant-loop-comment l =
    l.comments ≡ map (attach_alone l.previous l.token) (take l.comment-index l.initial.comments)
    ++ drop l.comment-index l.initial.comments
