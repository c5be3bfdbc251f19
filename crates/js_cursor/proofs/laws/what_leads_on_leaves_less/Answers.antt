use Rattle.js_cursor.proofs.RoundSteps.{leaves_less}
use Rattle.js_cursor.proofs.laws.what_leads_on_leaves_less.Goals as goal

pub returns : goal.returns
returns c = leaves_less
