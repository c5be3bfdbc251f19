use Rattle.std.proofs.Common.{◌≡◌, length}
use Rattle.js_grammar.specs.CommentClasses.{has_stars_alone}
use Rattle.js_trivia.proofs.classes.has_stars_alone.Given as goal

abbrev pub invariant-loop-rest : goal.invariant-loop-rest
invariant-loop-rest l = has_stars_alone l.rest ≡ has_stars_alone l.content

abbrev pub decreases-loop-rest : goal.decreases-loop-rest
decreases-loop-rest l = length l.rest
