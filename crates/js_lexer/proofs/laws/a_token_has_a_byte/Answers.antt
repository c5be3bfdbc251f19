use Rattle.js_lexer.proofs.ReadingLaws.{read_has_bytes, again_has_bytes}
use Rattle.js_lexer.proofs.laws.a_token_has_a_byte.Goals as goal

pub returns : goal.returns
returns c = record { read = read_has_bytes; again = again_has_bytes }
