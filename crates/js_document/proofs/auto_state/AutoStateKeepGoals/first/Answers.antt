use Rattle.std.proofs.Common.{refl}
use Rattle.js_document.proofs.auto_state.AutoStateKeepGoals.first.Goals as goal

pub returns : goal.returns
returns c = λ nodes token. record { opened = refl; operand = λ may. refl }
