use Rattle.std.proofs.lemmas.Result.{err_from_is_err_and}
use Rattle.js_session.proofs.Causes.{source_cause}
use Rattle.js_session.proofs.fault.checked_text.Goals as goal

pub returns-in_err-text-clause-err : goal.returns-in_err-text-clause-err
returns-in_err-text-clause-err c = let p = err_from_is_err_and c.from_residual.result c.from_residual.ensures.1 in
    rw (p.1, p.2) (source_cause c.args.source.now c.args.commands.now _ c.in_err-text.ensures.err)
