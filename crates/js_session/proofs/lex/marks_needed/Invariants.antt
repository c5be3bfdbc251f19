use Rattle.std.proofs.Common.{◌≡◌, drop}
use Rattle.js_session.specs.Effects.{marks_needed}
use Rattle.js_session.proofs.lex.marks_needed.Given as goal

-- What the commands from the index on need.
abbrev pub invariant-loop-index : goal.invariant-loop-index
invariant-loop-index l = l.needed ≡ marks_needed (drop l.index l.commands)
