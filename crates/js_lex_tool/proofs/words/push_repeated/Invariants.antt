use Rattle.std.proofs.Common.{◌≡◌, ◌++◌, replicate}
use Rattle.js_lex_tool.proofs.words.push_repeated.Given as goal

-- The command was pushed once a turn.
abbrev pub invariant-loop : goal.invariant-loop
invariant-loop l = l.commands ≡ l.initial.commands ++ replicate l.counter l.command
