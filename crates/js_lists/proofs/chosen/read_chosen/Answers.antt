use Rattle.std.proofs.Common.{inr, refl}
use Rattle.js_lists.proofs.Causes.{one_fault}
use Rattle.js_lists.proofs.chosen.read_chosen.Goals as goal

pub returns-in-Err-clause-cause : goal.returns-in-Err-clause-cause
returns-in-Err-clause-cause g c = inr (c.fault_of.ensures c.args.source.now c.in-Err.ensures.err, refl)

pub returns-in-Err-clause-exact : goal.returns-in-Err-clause-exact
returns-in-Err-clause-exact g c =
    λ fault other. one_fault c.args.source.now c.fault_of.result fault
    (c.fault_of.ensures c.args.source.now c.in-Err.ensures.err) other
