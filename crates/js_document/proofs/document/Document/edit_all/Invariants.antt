use Rattle.std.proofs.Common.{◌≤◌, take}
use Rattle.js_document.specs.InTurn.{EditsInTurn}
use Rattle.js_document.proofs.document.Document.edit_all.Given as goal

-- The edits so far were made.
abbrev pub invariant-loop-made : goal.invariant-loop-made
invariant-loop-made g l = record {
  in_turn : EditsInTurn g.K.KeepGoals.choice g.K.KeepGoals.alike l.initial.self (take l.made l.edits) l.initial.steps
      l.steps l.self;
  at_least : l.initial.steps ≤ l.steps;
}
