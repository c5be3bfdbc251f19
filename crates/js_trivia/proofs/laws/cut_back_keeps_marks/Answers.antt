use Rattle.js_trivia.proofs.CutBack.{cut_back_keeps_marks}
use Rattle.js_trivia.proofs.laws.cut_back_keeps_marks.Goals as goal

pub returns : goal.returns
returns c = cut_back_keeps_marks
