use Rattle.js_document.proofs.AutoLemmas.{known_again}
use Rattle.js_document.proofs.auto_state.AutoStateKeepGoals.again.Goals as goal

pub returns : goal.returns
returns c = λ nodes tokens token settled known. known_again nodes c.args.self tokens token settled known
