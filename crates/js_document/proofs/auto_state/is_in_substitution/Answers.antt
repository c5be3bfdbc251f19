use Rattle.js_document.proofs.AutoLemmas.{no_brace, some_brace}
use Rattle.js_document.specs.States.{brace_scope}
use Rattle.std.proofs.Common.{map}
use Rattle.js_document.proofs.auto_state.is_in_substitution.Goals as goal

pub returns-in-Some : goal.returns-in-Some
returns-in-Some c braces is =
    some_brace braces c.in-Some.scope (c.in-Some.ensures.is (map brace_scope braces) is)

pub returns-in-None : goal.returns-in-None
returns-in-None c braces is = no_brace braces (c.in-None.ensures.is (map brace_scope braces) is)
