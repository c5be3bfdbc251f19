use Rattle.std.proofs.Common.{◌≡◌, length}
use Rattle.js_grammar.specs.CommentClasses.{is_licensed}
use Rattle.js_trivia.proofs.classes.past_blocks.Given as goal

abbrev pub invariant-loop-rest : goal.invariant-loop-rest
invariant-loop-rest l = is_licensed l.rest ≡ is_licensed l.text

abbrev pub decreases-loop-rest : goal.decreases-loop-rest
decreases-loop-rest l = length l.rest
