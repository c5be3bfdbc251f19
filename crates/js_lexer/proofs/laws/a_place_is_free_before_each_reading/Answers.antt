use Rattle.js_lexer.proofs.PlaceLaws.{a_place_is_free}
use Rattle.js_lexer.proofs.laws.a_place_is_free_before_each_reading.Goals as goal

pub returns : goal.returns
returns c = a_place_is_free
