use Rattle.std.proofs.Common.{refl, rules, sym, subst}
use Rattle.js_grammar.specs.declared.goal.Goal.TheVariants.{JsxAttributeValue}
use Rattle.js_cursor.specs.Cursor.{IsOnToken}
use Rattle.js_cursor.proofs.TokenSteps.{before_onward, moves_on, on_read, on_view}
use Rattle.js_cursor.proofs.cursor.Cursor.advance_for_jsx_attribute_value.Goals as goal

pub returns-clause-ok : goal.returns-clause-ok
returns-clause-ok g c = search rules

pub returns-clause-passed : goal.returns-clause-passed
returns-clause-passed g c =
    (moves_on JsxAttributeValue _ c.args.self.now _ refl
    (on_view _ _ _ c.self.view_is c.self.invariant) (search rules) (returns-clause-ok g c)).passed

pub returns-clause-onward : goal.returns-clause-onward
returns-clause-onward g c =
    (moves_on JsxAttributeValue _ c.args.self.now _ refl
    (on_view _ _ _ c.self.view_is c.self.invariant) (search rules) (returns-clause-ok g c)).onward

pub returns-in_err-token-clause-err : goal.returns-in_err-token-clause-err
returns-in_err-token-clause-err g c = search rules

pub returns-in_err-token-clause-onward : goal.returns-in_err-token-clause-onward
returns-in_err-token-clause-onward g c =
    before_onward c.args.self.now _ (search rules) (search rules)

pub invariant_of-self-2 : goal.invariant_of-self-2
invariant_of-self-2 g c =
    subst (IsOnToken c.self.inside.source_text.now c.next_jsx_attribute_value.new.self c.in_ok-token.token)
    (sym c.end-self-inside.ensures)
    (on_read JsxAttributeValue _ c.self.inside.lexer c.next_jsx_attribute_value.new.self c.self.inside.token
    c.in_ok-token.token
    c.self.inside.previous_end refl c.self.invariant c.in_ok-token.ensures.ok)
