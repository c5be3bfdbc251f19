use Rattle.js_lex_tool.proofs.Named.{NamedBelow}
use Rattle.js_lex_tool.proofs.names.all_names.Given as goal

-- The kinds so far have their names.
abbrev pub invariant-loop-number : goal.invariant-loop-number
invariant-loop-number l = NamedBelow l.number l.names
