use Rattle.std.proofs.Common.{rules}
use Rattle.js_lexer.proofs.LexerSteps.{default_lies}
use Rattle.js_lexer.proofs.lexer.Lexer.last_token.Goals as goal

pub returns-clause-token : goal.returns-clause-token
returns-clause-token g c = search rules

pub returns-clause-places : goal.returns-clause-places
returns-clause-places g c =
    rw (returns-clause-token g c, ← c.self.view_is)
    (default_lies _ _ c.self.inside.reader.source.placed.utf8 c.self.invariant.last_lies)
