use Rattle.std.proofs.Common.{sym, subst}
use Rattle.std.specs.Str.{IsUtf8}
use Rattle.js_session.specs.Report.{ReportOf}
use Rattle.js_session.specs.Session.{Begins, report_of}
use Rattle.js_session.proofs.SelfLemmas.{begun_itself, begun_short, begun_utf8, of_begun}
use Rattle.js_session.proofs.lex.lex_uncounted.Goals as goal

pub follow_each-requires-clause-utf8 : goal.follow_each-requires-clause-utf8
follow_each-requires-clause-utf8 g c =
    begun_utf8 _ _ _ _ c.in-Ok.ensures.ok (subst IsUtf8 (sym c.in_ok-text.ensures.ok.0) c.in_ok-text.ensures.ok.1.utf8)

pub follow_each-requires-clause-short : goal.follow_each-requires-clause-short
follow_each-requires-clause-short g c =
    begun_short _ _ _ _ c.in-Ok.ensures.ok (rw c.in_ok-text.ensures.ok.0 c.in_ok-text.ensures.ok.1.short)

pub follow_each-requires-clause-begun : goal.follow_each-requires-clause-begun
follow_each-requires-clause-begun g c = begun_itself _ _ _ _ c.in-Ok.ensures.ok

pub returns-in-Ok-follow_each-clause-report : goal.returns-in-Ok-follow_each-clause-report
returns-in-Ok-follow_each-clause-report g c =
    let text = c.in_ok-text.text.now in
    let commands = c.args.commands.now in
    let begins =
    subst (λ b. Begins text c.args.source_type b c.in-Ok.session) c.new-config.ensures c.in-Ok.ensures.ok in
    subst (λ x. ReportOf x c.args.source_type c.args.tokens commands c.finish.result) c.in_ok-text.ensures.ok.0
    (subst (ReportOf text c.args.source_type c.args.tokens commands) (sym c.finish.ensures.report)
    (of_begun (λ x t b. ReportOf x t b commands (report_of c.follow_each.new.session)) text c.args.source_type
    c.args.tokens c.in-Ok.session begins c.in-Ok-follow_each.ensures))
