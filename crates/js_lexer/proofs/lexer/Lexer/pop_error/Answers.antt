use Rattle.std.proofs.Common.{ap}
use Rattle.js_lexer.specs.Lexer.{LexerState}
use Rattle.js_lexer.proofs.ListSteps.{none_found}
use Rattle.js_lexer.proofs.lexer.Lexer.pop_error.Goals as goal

pub returns-clause-none : goal.returns-clause-none
returns-clause-none g c =
    none_found c.pop.result c.self.inside.found.errors c.args.self.now.findings.diagnostics c.pop.ensures.found
    (ap (λ (l : LexerState). l.findings.diagnostics) c.self.view_is)
