use Rattle.std.proofs.Common.{take}
use Rattle.std.specs.List.{All}
use Rattle.js_session.specs.Shifted.{FitsShifted, OfComment}
use Rattle.js_session.proofs.shift.Shift.comments_fit.Given as goal

-- Those so far fit.
abbrev pub invariant-loop-comment : goal.invariant-loop-comment
invariant-loop-comment l = All (OfComment (FitsShifted l.self.from l.self.to)) (take l.comment-index l.comments)
