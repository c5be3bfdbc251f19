use Rattle.js_grammar.specs.declared.goal.Goal.TheVariants.{First}
use Rattle.js_cursor.proofs.CursorSteps.{on_first}
use Rattle.js_cursor.proofs.cursor.Cursor.new.Goals as goal

pub invariant_of-result : goal.invariant_of-result
invariant_of-result g c =
    on_first First c.args.lexer c.first_token.new.self c.in_ok-token.token c.remaining-source_text.result.now
    c.remaining-source_text.ensures c.requires c.in_ok-token.ensures.ok
