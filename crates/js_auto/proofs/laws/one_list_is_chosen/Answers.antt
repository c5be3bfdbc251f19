use Rattle.js_choose.proofs.ChosenLemmas.{one_list}
use Rattle.js_auto.specs.Choice.{choice_in}
use Rattle.js_auto.specs.DueLemmas.{each_is_due}
use Rattle.js_auto.proofs.laws.one_list_is_chosen.Goals as goal

pub returns : goal.returns
returns c = one_list choice_in each_is_due
