use Rattle.std.proofs.Common.{ap, inl, Err}
use Rattle.js_session.proofs.Causes.{cause_unique, sound_no_cause}
use Rattle.js_lists.proofs.steps.read_steps.Goals as goal

pub returns-in-Err-clause-exact : goal.returns-in-Err-clause-exact
returns-in-Err-clause-exact g c =
    λ fault is. inl
    (ap Err (cause_unique c.args.source.now c.args.commands.now c.in-Err.fault fault c.in-Err.ensures.err is))

pub returns-in-Err-clause-complete : goal.returns-in-Err-clause-complete
returns-in-Err-clause-complete g c =
    λ readable marks.
    absurd (sound_no_cause c.args.source.now c.args.commands.now c.in-Err.fault readable marks c.in-Err.ensures.err)
