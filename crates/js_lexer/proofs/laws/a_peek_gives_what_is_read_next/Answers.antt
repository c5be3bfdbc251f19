use Rattle.js_lexer.proofs.ReadingLaws.{peek_is_next}
use Rattle.js_lexer.proofs.laws.a_peek_gives_what_is_read_next.Goals as goal

pub returns : goal.returns
returns c = peek_is_next
