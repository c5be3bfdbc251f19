use Rattle.js_choose.proofs.ChosenLemmas.{one_list}
use Rattle.js_jsx.specs.Choice.{choice}
use Rattle.js_jsx.specs.DueLemmas.{each_is_due}
use Rattle.js_jsx.proofs.laws.one_list_is_chosen.Goals as goal

pub returns : goal.returns
returns c = one_list choice each_is_due
