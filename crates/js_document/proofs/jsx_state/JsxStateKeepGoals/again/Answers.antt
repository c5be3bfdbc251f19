use Rattle.js_document.proofs.JsxLemmas.{jsx_known_again}
use Rattle.js_document.proofs.jsx_state.JsxStateKeepGoals.again.Goals as goal

pub returns : goal.returns
returns c = λ nodes tokens token settled known. jsx_known_again nodes c.args.self tokens token known
