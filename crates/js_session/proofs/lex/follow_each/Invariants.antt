use Rattle.std.proofs.Common.{◌≤◌, drop}
use Rattle.js_session.specs.Effects.{marks_needed}
use Rattle.js_session.proofs.RunLemmas.{Progress}
use Rattle.js_session.proofs.lex.follow_each.Given as goal

-- The rows so far answer the commands before this one, and there are places for the marks of those that are left.
abbrev pub invariant-loop-command : goal.invariant-loop-command
invariant-loop-command g l =
    Progress l.fn.session.text l.fn.session.source_type l.fn.session.collects l.fn.commands l.command-index l.session
    × (marks_needed (drop l.command-index l.fn.commands) ≤ l.session.spare)
