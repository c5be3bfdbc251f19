use Rattle.std.proofs.lemmas.Result.{IfOk-weaker}
use Rattle.js_session.specs.WholeSource.{nexts}
use Rattle.js_session.proofs.Causes.{exactly_source, completely_source, never_no_mark}
use Rattle.js_session.proofs.RunLemmas.{rows_slices}
use Rattle.js_session.proofs.whole_source.lex_all.Goals as goal

pub returns-clause-slices : goal.returns-clause-slices
returns-clause-slices c =
    IfOk-weaker c.lex_all_uncounted.result _ _
    (λ whole is. rows_slices c.args.source.now c.args.source_type (nexts whole.0) whole.1.rows is.report_is.rows)
    c.lex_all_uncounted.ensures.report

pub returns-clause-exact : goal.returns-clause-exact
returns-clause-exact c =
    λ fault is. exactly_source c.args.source.now c.lex_all_uncounted.result fault c.lex_all_uncounted.ensures.ok
    c.lex_all_uncounted.ensures.cause is

pub returns-clause-complete : goal.returns-clause-complete
returns-clause-complete c =
    completely_source c.args.source.now c.lex_all_uncounted.result c.lex_all_uncounted.ensures.cause

pub returns-clause-no_mark : goal.returns-clause-no_mark
returns-clause-no_mark c =
    λ index. never_no_mark c.args.source.now c.lex_all_uncounted.result index c.lex_all_uncounted.ensures.cause
