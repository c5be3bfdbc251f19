use Rattle.js_trivia.proofs.CutBack.{cut_back_restores, grew_on}
use Rattle.js_trivia.proofs.laws.cut_back_restores.Goals as goal

pub returns : goal.returns
returns c = record { restored = cut_back_restores; composed = grew_on }
