use Rattle.js_lexer.proofs.GoesOn.{can_rewind-on}
use Rattle.js_lexer.proofs.laws.what_goes_on_may_go_back.Goals as goal

pub returns : goal.returns
returns c = can_rewind-on
