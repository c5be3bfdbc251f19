use Rattle.js_trivia.proofs.Last.{mark_last_at, last_may_trail_at}
use Rattle.js_trivia.proofs.attaching.mark_last_followed.Goals as goal

pub returns-in-len1-up-clause-marked : goal.returns-in-len1-up-clause-marked
returns-in-len1-up-clause-marked c = mark_last_at c.args.comments.now _ c.in-len1-up.len_at_least

pub returns-in-len1-up-clause-trails : goal.returns-in-len1-up-clause-trails
returns-in-len1-up-clause-trails c =
    rw c.stays_leading.ensures (last_may_trail_at c.args.comments.now _ c.in-len1-up.len_at_least)
