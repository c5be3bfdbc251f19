use Rattle.js_lexer.proofs.GivenTexts.{again_given, peek_given, read_given}
use Rattle.js_lexer.proofs.laws.a_text_is_the_value_of_its_reading.Goals as goal

pub returns : goal.returns
returns c = record { read = read_given; again = again_given; peek = peek_given }
