use Rattle.std.proofs.Common.{◌≡◌, ◌∙◌, ◌-◌, ap, sym, subst, take, drop, get_or, length, inl, inr}
use Rattle.std.specs.Prelude.{◌⊎◌, IfOk, OnErr}
use Rattle.std.specs.List.{list_all}
use Rattle.js_session.specs.Effects.{is_lasting}
use Rattle.js_session.specs.Session.{state_behind}
use Rattle.js_session.specs.declared.report.Report.{Report}
use Rattle.js_relex.specs.Documents.{DocState}
use Rattle.js_relex.specs.Joining.{BreaksBehind, ReadsUntil}
use Rattle.js_relex.proofs.KeptRows.{KeptAll}
use Rattle.js_relex.proofs.Outcomes.{err_gives, ok_gives}
use Rattle.js_relex.proofs.ReadRows.{breaks_kept, reads_kept}
use Rattle.js_relex.proofs.Relexed.{document_of, goes_on, kept_of_document, rest_lasts}
use Rattle.js_relex.proofs.document.edited.read_behind_kept.Goals as goal

pub rows_behind-requires-clause-resumes : goal.rows_behind-requires-clause-resumes
rows_behind-requires-clause-resumes g c =
    let kept =
    kept_of_document c.args.old.now c.as_slice-rows.result.now c.args.text.now c.args.edit.now.text.now
    c.args.edit.now.start c.args.edit.now.end c.args.joining.now.commands c.args.last c.index-rows-last.result
    (document_of c.args.old.now _ _ _ _ _ _ c.old.invariant c.old.view_is)
    (c.as_slice-rows.ensures ∙ ap (λ (r : Report). r.rows) c.report.ensures
    ∙ ap (λ (d : DocState). d.report.rows) c.old.view_is) c.requires.edit c.requires.text
    c.utf8.text c.requires.lasting c.requires.kept in
    (goes_on c.args.text.now c.args.old.now.source_type c.args.joining.now.commands c.args.old.now.report.rows
    c.args.last _ c.requires.lasting kept).may

pub rows_behind-requires-clause-lasting : goal.rows_behind-requires-clause-lasting
rows_behind-requires-clause-lasting g c =
    rest_lasts c.commands-commands.result.now c.args.last
    (ap (list_all is_lasting) c.commands-commands.ensures ∙ c.requires.lasting)

pub returns-clause-rows : goal.returns-clause-rows
returns-clause-rows g c =
    let j = c.args.joining.now in
    let text = c.args.text.now in
    let type = ap (λ (d : DocState). d.source_type) c.old.view_is in
    let token = (get_or c.as_slice-rows.result.now c.args.last c.index-rows-last.result).token in
    let kept =
    kept_of_document c.args.old.now c.as_slice-rows.result.now text c.args.edit.now.text.now
    c.args.edit.now.start c.args.edit.now.end j.commands c.args.last c.index-rows-last.result
    (document_of c.args.old.now _ _ _ _ _ _ c.old.invariant c.old.view_is)
    (c.as_slice-rows.ensures ∙ ap (λ (r : Report). r.rows) c.report.ensures
    ∙ ap (λ (d : DocState). d.report.rows) c.old.view_is) c.requires.edit c.requires.text
    c.utf8.text c.requires.lasting c.requires.kept in
    let all : KeptAll text c.args.old.now.source_type j.commands j.rows c.args.last token =
    subst (λ rs. KeptAll text c.args.old.now.source_type j.commands rs c.args.last token) (sym c.requires.joining)
    kept in
    ok_gives c.rows_behind.result
    (λ r h. reads_kept text c.args.old.now.source_type j c.args.last token r.rows r.joined c.requires.lasting
    c.requires.fits all h)
    (subst
    (λ cs. IfOk c.rows_behind.result (λ r. ReadsUntil text c.args.old.now.source_type (state_behind token) j
    (take (length cs - c.args.last) (drop c.args.last cs)) r.rows r.joined)) c.commands-commands.ensures
    (subst
    (λ t. IfOk c.rows_behind.result (λ r. ReadsUntil text t (state_behind token) j
    (take (length c.commands-commands.result.now - c.args.last) (drop c.args.last c.commands-commands.result.now))
    r.rows r.joined)) type c.rows_behind.ensures.rows))

pub returns-clause-broken : goal.returns-clause-broken
returns-clause-broken g c =
    let j = c.args.joining.now in
    let text = c.args.text.now in
    let type = ap (λ (d : DocState). d.source_type) c.old.view_is in
    let token = (get_or c.as_slice-rows.result.now c.args.last c.index-rows-last.result).token in
    let before = c.args.steps.now in
    let now = c.rows_behind.new.steps in
    let kept =
    kept_of_document c.args.old.now c.as_slice-rows.result.now text c.args.edit.now.text.now
    c.args.edit.now.start c.args.edit.now.end j.commands c.args.last c.index-rows-last.result
    (document_of c.args.old.now _ _ _ _ _ _ c.old.invariant c.old.view_is)
    (c.as_slice-rows.ensures ∙ ap (λ (r : Report). r.rows) c.report.ensures
    ∙ ap (λ (d : DocState). d.report.rows) c.old.view_is) c.requires.edit c.requires.text
    c.utf8.text c.requires.lasting c.requires.kept in
    let all : KeptAll text c.args.old.now.source_type j.commands j.rows c.args.last token =
    subst (λ rs. KeptAll text c.args.old.now.source_type j.commands rs c.args.last token) (sym c.requires.joining)
    kept in
    err_gives c.rows_behind.result
    (λ either. elim either [
      | inl same ↦ inl same
      | inr broken ↦ inr
          (breaks_kept text c.args.old.now.source_type j c.args.last token before now c.utf8.text c.requires.lasting
          c.requires.fits all broken)
    ])
    (subst
    (λ cs. OnErr c.rows_behind.result ((now ≡ before) ⊎ BreaksBehind text c.args.old.now.source_type
    (state_behind token) j (take (length cs - c.args.last) (drop c.args.last cs)) before now))
    c.commands-commands.ensures
    (subst
    (λ t. OnErr c.rows_behind.result ((now ≡ before) ⊎ BreaksBehind text t (state_behind token) j
    (take (length c.commands-commands.result.now - c.args.last) (drop c.args.last c.commands-commands.result.now))
    before now)) type c.rows_behind.ensures.broken))
