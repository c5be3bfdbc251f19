use Rattle.std.proofs.Common.{◌≤◌, List}
use Rattle.js_kind.specs.TokenParts.{TokenParts}
use Rattle.js_choose.proofs.SessionLemmas.{left_of}
use Rattle.js_document.specs.Reading.{GoesOnFrom}
use Rattle.js_document.specs.Trie.{HasMore}
use Rattle.js_document.proofs.ReadLemmas.{SoFar}
use Rattle.js_document.proofs.read.read_on.Given as goal

-- The steps so far were chosen, and none of their rows joins an old one, whatever tokens come before.
abbrev pub invariant-loop-command : goal.invariant-loop-command
invariant-loop-command g l = record {
  so_far : (front : List TokenParts)
      → GoesOnFrom g.K.KeepGoals.knows front l.initial.open l.initial.session l.text l.initial.last l.initial.state
      → SoFar g.K.KeepGoals.choice g.K.KeepGoals.knows g.K.KeepGoals.alike front l.initial.open l.joining
      l.initial.session l.initial.states.items l.initial.steps l.open l.session l.states.items l.last l.state l.steps;
  more : HasMore l.initial.open l.open;
  onward : l.initial.steps ≤ l.steps;
}

abbrev pub decreases-loop-command : goal.decreases-loop-command
decreases-loop-command g l = left_of l.text l.session.state.now.tokens
