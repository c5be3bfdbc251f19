use Rattle.js_trivia.proofs.CutBack.{grew_after_gap}
use Rattle.js_trivia.proofs.GapLaw.{calls_for_gap, held_after_gap}
use Rattle.js_trivia.proofs.laws.gap_is_attached.Goals as goal

pub returns : goal.returns
returns c = record { attached = calls_for_gap; grew = grew_after_gap; held = held_after_gap }
