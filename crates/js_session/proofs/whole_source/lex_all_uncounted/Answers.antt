use Rattle.std.proofs.Common.{◌≤◌, length, sym, subst}
use Rattle.std.specs.Str.{IsUtf8}
use Rattle.js_session.specs.Session.{Begins, report_of}
use Rattle.js_session.specs.WholeSource.{ReportOfWhole}
use Rattle.js_session.proofs.SelfLemmas.{begun_itself, begun_short, begun_utf8, of_begun}
use Rattle.js_session.proofs.whole_source.lex_all_uncounted.Goals as goal

pub step_to_end-requires-clause-utf8 : goal.step_to_end-requires-clause-utf8
step_to_end-requires-clause-utf8 g c =
    begun_utf8 _ _ _ _ c.in-Ok.ensures.ok (subst IsUtf8 (sym c.in_ok-text.ensures.ok.0) c.in_ok-text.ensures.ok.1.utf8)

pub step_to_end-requires-clause-short : goal.step_to_end-requires-clause-short
step_to_end-requires-clause-short g c =
    begun_short _ _ _ _ c.in-Ok.ensures.ok (rw c.in_ok-text.ensures.ok.0 c.in_ok-text.ensures.ok.1.short)

pub step_to_end-requires-clause-begun : goal.step_to_end-requires-clause-begun
step_to_end-requires-clause-begun g c = begun_itself _ _ _ _ c.in-Ok.ensures.ok

pub returns-in-Ok-step_to_end-clause-report : goal.returns-in-Ok-step_to_end-clause-report
returns-in-Ok-step_to_end-clause-report g c =
    let text = c.in_ok-text.text.now in
    let count = c.in-Ok-step_to_end.count in
    let begins =
    subst (λ b. Begins text c.args.source_type b c.in-Ok.session) c.new-config.ensures c.in-Ok.ensures.ok in
    subst (λ x. ReportOfWhole x c.args.source_type c.args.tokens count c.finish.result) c.in_ok-text.ensures.ok.0
    (subst (ReportOfWhole text c.args.source_type c.args.tokens count) (sym c.finish.ensures.report)
    (of_begun (λ x t b. ReportOfWhole x t b count (report_of c.step_to_end.new.session)) text c.args.source_type
    c.args.tokens c.in-Ok.session begins c.in-Ok-step_to_end.ensures.report))

pub returns-in-Ok-step_to_end-clause-few : goal.returns-in-Ok-step_to_end-clause-few
returns-in-Ok-step_to_end-clause-few g c =
    subst (λ x. c.in-Ok-step_to_end.count ≤ length x) c.in_ok-text.ensures.ok.0
    (of_begun (λ x t b. c.in-Ok-step_to_end.count ≤ length x) _ _ _ c.in-Ok.session c.in-Ok.ensures.ok
    c.in-Ok-step_to_end.ensures.few)
