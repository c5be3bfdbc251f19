use Rattle.std.proofs.Common.{sym, subst}
use Rattle.js_grammar.specs.Goals.{ReadsHere}
use Rattle.js_grammar.proofs.GapEnds.{reading_is_here}
use Rattle.js_grammar.proofs.HereReadings.{here_is_reading}
use Rattle.js_grammar.proofs.laws.what_is_read_is_a_function.Goals as goal

pub returns : goal.returns
returns c t line_has_ended here r gap = (
  λ reads. here_is_reading t line_has_ended here r reads,
  λ is. subst (ReadsHere t line_has_ended here) (sym is) (reading_is_here t line_has_ended here gap),
)
