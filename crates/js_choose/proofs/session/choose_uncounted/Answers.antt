use Rattle.std.proofs.Common.{inr, sym, subst}
use Rattle.std.specs.Str.{IsUtf8}
use Rattle.js_session.specs.Session.{Begins}
use Rattle.js_choose.specs.Rules.{ReportBy}
use Rattle.js_choose.proofs.SessionLemmas.{begun_itself, report_begun}
use Rattle.js_choose.proofs.session.choose_uncounted.Goals as goal

pub returns-in-Err-clause-cause : goal.returns-in-Err-clause-cause
returns-in-Err-clause-cause g c = inr (c.fault_of.ensures c.args.source.now c.in-Err.ensures.err)

pub choose_all-requires-clause-utf8 : goal.choose_all-requires-clause-utf8
choose_all-requires-clause-utf8 g c = subst IsUtf8 (sym c.in-Ok.ensures.ok.0) c.in-Ok.ensures.ok.1.utf8

pub choose_all-requires-clause-begun : goal.choose_all-requires-clause-begun
choose_all-requires-clause-begun g c = begun_itself _ _ _ c.in-Ok-begin.session c.in-Ok-begin.ensures.ok

pub returns-in-Ok-choose_all-clause-report : goal.returns-in-Ok-choose_all-clause-report
returns-in-Ok-choose_all-clause-report g c =
    let text = c.in-Ok.text.now in
    let s = c.in-Ok-begin.session in
    let commands = c.in-Ok-choose_all.commands in
    let begins = subst (λ b. Begins text c.args.source_type b s) c.new-config.ensures c.in-Ok-begin.ensures.ok in
    subst (λ x. ReportBy g.G.ChooseGoals.choice x c.args.source_type c.args.tokens commands c.finish.result)
    c.in-Ok.ensures.ok.0
    (subst (ReportBy g.G.ChooseGoals.choice text c.args.source_type c.args.tokens commands)
    (sym c.finish.ensures.report)
    (report_begun g.G.ChooseGoals.choice text c.args.source_type c.args.tokens s _ _ begins
    c.in-Ok-choose_all.ensures))
