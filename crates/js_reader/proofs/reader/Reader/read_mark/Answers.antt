use Rattle.std.proofs.lemmas.Result.{IfOk-weaker}
use Rattle.js_reader.proofs.DecodedSteps.{needs_no_value}
use Rattle.js_reader.proofs.reader.Reader.read_mark.Goals as goal

pub returns-clause-value : goal.returns-clause-value
returns-clause-value c =
    IfOk-weaker c.read_symbol.result (λ lexeme. _) (λ lexeme. _)
    (λ lexeme e. needs_no_value c.args.self.now.source c.args.decoded.now lexeme.kind lexeme.escaped e)
    c.read_symbol.ensures.unescaped
