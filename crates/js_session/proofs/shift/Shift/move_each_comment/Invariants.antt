use Rattle.std.proofs.Common.{◌≡◌, ◌++◌, map, take, drop}
use Rattle.js_session.specs.Shifted.{shifted_comment}
use Rattle.js_session.proofs.shift.Shift.move_each_comment.Given as goal

-- So many were moved; those behind them are as they were.
abbrev pub invariant-loop-comment : goal.invariant-loop-comment
invariant-loop-comment l =
    l.comments ≡ map (shifted_comment l.self.from l.self.to) (take l.comment-index l.initial.comments)
    ++ drop l.comment-index l.initial.comments
