use Rattle.std.proofs.lemmas.Result.{IfOk-weaker}
use Rattle.js_session.proofs.RunLemmas.{rows_slices}
use Rattle.js_choose.proofs.Causes.{completely, exactly}
use Rattle.js_choose.proofs.session.choose_session.Goals as goal

pub returns-clause-slices : goal.returns-clause-slices
returns-clause-slices g c =
    IfOk-weaker c.choose_uncounted.result _ _
    (λ auto is. rows_slices c.args.source.now c.args.source_type auto.commands auto.report.rows is.report_is.rows)
    c.choose_uncounted.ensures.report

pub returns-clause-exact : goal.returns-clause-exact
returns-clause-exact g c =
    λ fault is. exactly c.args.source.now c.choose_uncounted.result fault c.choose_uncounted.ensures.ok
    c.choose_uncounted.ensures.cause is

pub returns-clause-complete : goal.returns-clause-complete
returns-clause-complete g c =
    completely c.args.source.now c.choose_uncounted.result c.choose_uncounted.ensures.cause
