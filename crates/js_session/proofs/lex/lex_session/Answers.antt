use Rattle.std.proofs.lemmas.Result.{IfOk-weaker}
use Rattle.js_session.proofs.Causes.{exactly, completely}
use Rattle.js_session.proofs.RunLemmas.{rows_slices}
use Rattle.js_session.proofs.lex.lex_session.Goals as goal

pub returns-clause-slices : goal.returns-clause-slices
returns-clause-slices c =
    IfOk-weaker c.lex_uncounted.result _ _
    (λ r is. rows_slices c.args.source.now c.args.source_type c.args.commands.now r.rows is.rows)
    c.lex_uncounted.ensures.report

pub returns-clause-exact : goal.returns-clause-exact
returns-clause-exact c =
    λ fault is. exactly c.args.source.now c.args.commands.now c.lex_uncounted.result fault c.lex_uncounted.ensures.ok
    c.lex_uncounted.ensures.cause is

pub returns-clause-complete : goal.returns-clause-complete
returns-clause-complete c =
    completely c.args.source.now c.args.commands.now c.lex_uncounted.result c.lex_uncounted.ensures.cause
