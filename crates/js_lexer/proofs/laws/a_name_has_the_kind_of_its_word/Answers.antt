use Rattle.js_lexer.proofs.SpelledTokens.{read_name_of_word}
use Rattle.js_lexer.proofs.laws.a_name_has_the_kind_of_its_word.Goals as goal

pub returns : goal.returns
returns c = read_name_of_word
