use Rattle.js_trivia.proofs.Twice.{comment_twice, irregular_twice}
use Rattle.js_trivia.proofs.laws.told_twice_is_listed_once.Goals as goal

pub returns : goal.returns
returns c = record { comments = comment_twice; irregular = irregular_twice }
