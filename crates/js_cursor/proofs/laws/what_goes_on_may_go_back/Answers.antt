use Rattle.js_cursor.proofs.CursorSteps.{can_rewind-on}
use Rattle.js_cursor.proofs.laws.what_goes_on_may_go_back.Goals as goal

pub returns : goal.returns
returns c = can_rewind-on
