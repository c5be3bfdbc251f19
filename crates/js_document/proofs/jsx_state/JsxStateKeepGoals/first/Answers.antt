use Rattle.std.proofs.Common.{[], refl}
use Rattle.js_document.proofs.jsx_state.JsxStateKeepGoals.first.Goals as goal

pub returns : goal.returns
returns c = λ nodes token. record { scopes = []; opened = refl; state_is = refl }
