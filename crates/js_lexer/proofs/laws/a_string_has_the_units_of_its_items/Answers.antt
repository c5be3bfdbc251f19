use Rattle.js_lexer.proofs.SpelledTokens.{read_string_of_items}
use Rattle.js_lexer.proofs.laws.a_string_has_the_units_of_its_items.Goals as goal

pub returns : goal.returns
returns c = read_string_of_items
