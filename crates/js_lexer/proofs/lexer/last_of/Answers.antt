use Rattle.std.proofs.Common.{◌∙◌}
use Rattle.js_lexer.proofs.LexerSteps.{last_is}
use Rattle.js_lexer.proofs.lexer.last_of.Goals as goal

pub returns : goal.returns
returns c = c.copied.ensures ∙ c.last.ensures.value ∙ last_is c.args.tokens.now
