use Rattle.std.proofs.Common.{◌≡◌, length}
use Rattle.js_grammar.specs.CommentClasses.{is_licensed}
use Rattle.js_trivia.proofs.classes.is_licensed_anywhere.Given as goal

abbrev pub invariant-loop-found : goal.invariant-loop-found
invariant-loop-found l = is_licensed l.rest ≡ is_licensed l.content

abbrev pub decreases-loop-found : goal.decreases-loop-found
decreases-loop-found l = length l.rest
