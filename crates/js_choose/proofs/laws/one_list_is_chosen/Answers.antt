use Rattle.js_choose.proofs.ChosenLemmas.{one_list}
use Rattle.js_choose.proofs.laws.one_list_is_chosen.Goals as goal

pub returns : goal.returns
returns c = λ rule source t collects commands others a b law. one_list rule law source t collects commands others a b
