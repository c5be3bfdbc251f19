use Rattle.js_source.proofs.Places.{at_place, first_byte_at, none_at_end}
use Rattle.js_source.proofs.source.Source.peek_byte.Goals as goal

pub returns-then-at-bytes-clause-some : goal.returns-then-at-bytes-clause-some
returns-then-at-bytes-clause-some c =
    rw (c.as_bytes-bytes.ensures.value, ← c.self.view_is)
    (first_byte_at (at_place _ _ c.self.inside.placed) (rw c.as_bytes-bytes.ensures.value at c.if-at-bytes.true))

pub returns-else-at-bytes-clause-none : goal.returns-else-at-bytes-clause-none
returns-else-at-bytes-clause-none c =
    rw (← c.self.view_is) (none_at_end (at_place _ _ c.self.inside.placed) (rw c.as_bytes-bytes.ensures.value at
    c.if-at-bytes.false))
