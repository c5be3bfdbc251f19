use Rattle.js_session.proofs.Unique.{peek_is_next}
use Rattle.js_session.proofs.laws.a_peek_is_what_comes_next.Goals as goal

pub returns : goal.returns
returns c = peek_is_next
