use Rattle.std.proofs.Common.{◌≡◌, ◌++◌, map, take, drop}
use Rattle.js_trivia.specs.Attachment.{attach_to}
use Rattle.js_trivia.proofs.attaching.attach_many.Given as goal

abbrev pub invariant-loop-comment : goal.invariant-loop-comment
invariant-loop-comment l =
    l.comments ≡ map (attach_to l.position l.attached_to) (take l.comment-index l.initial.comments)
    ++ drop l.comment-index l.initial.comments
