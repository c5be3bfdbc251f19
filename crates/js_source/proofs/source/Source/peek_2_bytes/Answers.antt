use Rattle.js_source.proofs.Places.{at_place, first_two_bytes, at_most_one_byte}
use Rattle.js_source.proofs.source.Source.peek_2_bytes.Goals as goal

pub returns-then-at-bytes-clause-some : goal.returns-then-at-bytes-clause-some
returns-then-at-bytes-clause-some c =
    rw (c.as_bytes-bytes.ensures.value, ← c.self.view_is)
    (first_two_bytes (at_place _ _ c.self.inside.placed) (rw c.as_bytes-bytes.ensures.value at c.if-at-bytes.true))

pub returns-else-at-bytes-clause-none : goal.returns-else-at-bytes-clause-none
returns-else-at-bytes-clause-none c =
    rw (← c.self.view_is) (at_most_one_byte (at_place _ _ c.self.inside.placed)
    (rw c.as_bytes-bytes.ensures.value at c.if-at-bytes.false))
