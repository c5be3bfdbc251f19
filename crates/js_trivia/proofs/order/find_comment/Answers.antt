use Rattle.std.proofs.Common.{◌≤◌, ◌<◌, ◌+◌, length, ◌∙◌, sym, arith}
use Rattle.js_trivia.proofs.Ranges.{position_within}
use Rattle.js_trivia.proofs.Starts.{position_bound}
use Rattle.js_trivia.proofs.order.find_comment.Goals as goal

pub overflow_cast-result : goal.overflow_cast-result
overflow_cast-result c =
    let le : c.in_ok-index.index ≤ c.args.start =
    position_bound 0 c.in_ok-index.index c.args.start c.args.end 0 c.args.comments.now (omega arith) c.requires
    (sym c.position_of.ensures ∙ c.in_ok-index.was) in
    omega (arith, le, c.ranges.start)

pub returns-clause-bound : goal.returns-clause-bound
returns-clause-bound c =
    position_bound 0 c.in_ok-index.index c.args.start c.args.end 0 c.args.comments.now (omega arith) c.requires
    (sym c.position_of.ensures ∙ c.in_ok-index.was)

pub returns-clause-held : goal.returns-clause-held
returns-clause-held c =
    let within : c.in_ok-index.index < length c.args.comments.now + 0 =
    position_within 0 c.in_ok-index.index c.args.start c.args.end c.args.comments.now
    (sym c.position_of.ensures ∙ c.in_ok-index.was) in
    omega (arith, within)
