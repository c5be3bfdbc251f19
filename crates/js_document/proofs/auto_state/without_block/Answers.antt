use Rattle.std.proofs.Common.{map, sym, ◌∙◌}
use Rattle.js_document.proofs.AutoLemmas.{closes_block, stays_open}
use Rattle.js_document.specs.States.{brace_scope}
use Rattle.js_document.proofs.auto_state.without_block.Goals as goal

pub returns-then-is_in_substitution : goal.returns-then-is_in_substitution
returns-then-is_in_substitution c braces is =
    stays_open c.args.open.now c.args.link braces (sym (c.is_in_substitution.ensures braces is) ∙ c.if-is_in_substitution.true)
    is

pub returns-else-is_in_substitution : goal.returns-else-is_in_substitution
returns-else-is_in_substitution c braces is =
    closes_block c.args.open.now c.close.result braces
    (sym (c.is_in_substitution.ensures braces is) ∙ c.if-is_in_substitution.false)
    (c.close.ensures.is (map brace_scope braces) is)
