use Rattle.js_lexer.proofs.LexerSteps.{reading_goes_on, re_lexing_goes_on}
use Rattle.js_lexer.proofs.laws.a_reading_goes_on.Goals as goal

pub returns : goal.returns
returns c = record { read = reading_goes_on; again = re_lexing_goes_on }
