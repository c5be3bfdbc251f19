use Rattle.js_grammar.proofs.Clean.{agrees_with_grammar}
use Rattle.js_grammar.proofs.laws.a_clean_reading_is_the_grammars.Goals as goal

pub returns : goal.returns
returns c = agrees_with_grammar
