use Rattle.std.proofs.Common.{◌∙◌, ap, subst, sym}
use Rattle.js_relex.specs.Documents.{DocState, IsDocument}
use Rattle.js_relex.specs.Joining.{PreparedState}
use Rattle.js_relex.specs.LiveLists.{HasLasted}
use Rattle.js_relex.proofs.Lasted.{has_lasted}
use Rattle.js_relex.proofs.NewRows.{none_collected}
use Rattle.js_relex.proofs.PutTogether.{few_kept, gathered_in_place, last_may_move, read_lasts, rows_stay}
use Rattle.js_relex.proofs.Relexed.{document_of}
use Rattle.js_relex.proofs.Ticks.{is_document, made}
use Rattle.js_relex.proofs.document.edited.put_in_place.Goals as goal

pub replace-requires-clause-lasted : goal.replace-requires-clause-lasted
replace-requires-clause-lasted c =
    subst (λ cs. HasLasted cs c.old.inside.report) (sym c.as_slice.ensures) (has_lasted _ _ _ _ c.old.invariant)

pub replace-requires-clause-collected : goal.replace-requires-clause-collected
replace-requires-clause-collected c =
    c.old.invariant.report_is.collected_are ∙ none_collected c.old.inside.report.tokens

pub replace-requires-clause-read_lasted : goal.replace-requires-clause-read_lasted
replace-requires-clause-read_lasted c =
    read_lasts c.args.old c.args.edit.now.start c.args.edit.now.end c.args.edit.now.text.now c.args.prepared
    (document_of c.args.old _ _ _ _ _ _ c.old.invariant c.old.view_is) c.requires c.old.inside.report.rows
    c.count_taken_over-behind.result (ap (λ (d : DocState). d.report.rows) c.old.view_is)
    c.count_taken_over-behind.ensures c.prepared.inside.rows (ap (λ (x : PreparedState). x.rows) c.prepared.view_is)

pub replace-requires-clause-few : goal.replace-requires-clause-few
replace-requires-clause-few c =
    few_kept c.args.old c.args.edit.now.start c.args.edit.now.end c.args.edit.now.text.now c.args.prepared
    (document_of c.args.old _ _ _ _ _ _ c.old.invariant c.old.view_is) c.requires c.old.inside.report.rows
    c.count_taken_over-behind.result (ap (λ (d : DocState). d.report.rows) c.old.view_is)
    c.count_taken_over-behind.ensures c.prepared.inside.kept
    (ap (λ (x : PreparedState). x.kept) c.prepared.view_is)

pub replace-requires-clause-may_move : goal.replace-requires-clause-may_move
replace-requires-clause-may_move c =
    last_may_move c.args.old c.args.edit.now.start c.args.edit.now.end c.args.edit.now.text.now c.args.prepared
    (document_of c.args.old _ _ _ _ _ _ c.old.invariant c.old.view_is) c.requires c.old.inside.report.rows
    c.count_taken_over-behind.result (ap (λ (d : DocState). d.report.rows) c.old.view_is)
    c.count_taken_over-behind.ensures c.shift_of-shift.result.from
    c.shift_of-shift.result.to c.shift_of-shift.ensures.from c.shift_of-shift.ensures.to

pub replace-requires-clause-stay : goal.replace-requires-clause-stay
replace-requires-clause-stay c =
    rows_stay c.args.old c.args.edit.now.start c.args.edit.now.end c.args.edit.now.text.now c.args.prepared
    (document_of c.args.old _ _ _ _ _ _ c.old.invariant c.old.view_is) c.requires c.old.inside.report.rows
    c.count_taken_over-behind.result (ap (λ (d : DocState). d.report.rows) c.old.view_is)
    c.count_taken_over-behind.ensures c.shift_of-shift.result.from
    c.shift_of-shift.result.to c.shift_of-shift.ensures.from c.shift_of-shift.ensures.to

pub invariant_of-result : goal.invariant_of-result
invariant_of-result c =
    let doc = document_of c.args.old _ _ _ _ _ _ c.old.invariant c.old.view_is in
    let edit = c.args.edit.now in
    let gathered =
    gathered_in_place c.args.old edit.start edit.end edit.text.now c.args.prepared doc c.requires
    c.old.inside.report.rows c.count_taken_over-behind.result c.prepared.inside.kept c.prepared.inside.rows
    c.shift_of-shift.result.from c.shift_of-shift.result.to c.replace.new.self
    (ap (λ (d : DocState). d.report.rows) c.old.view_is) c.count_taken_over-behind.ensures
    (ap (λ (x : PreparedState). x.kept) c.prepared.view_is) (ap (λ (x : PreparedState). x.rows) c.prepared.view_is)
    c.shift_of-shift.ensures.from c.shift_of-shift.ensures.to c.in-Ok.ensures.ok in
    subst (λ (x : PreparedState). IsDocument x.text c.old.inside.source_type x.commands c.replace.new.self)
    (sym c.prepared.view_is)
    (subst (λ (d : DocState). IsDocument c.args.prepared.text d.source_type c.args.prepared.commands c.replace.new.self)
    (sym c.old.view_is)
    (is_document c.args.old edit.start edit.end edit.text.now c.args.prepared doc c.requires c.replace.new.self
    gathered))

pub returns-clause-made : goal.returns-clause-made
returns-clause-made c =
    let doc = document_of c.args.old _ _ _ _ _ _ c.old.invariant c.old.view_is in
    let edit = c.args.edit.now in
    let gathered =
    gathered_in_place c.args.old edit.start edit.end edit.text.now c.args.prepared doc c.requires
    c.old.inside.report.rows c.count_taken_over-behind.result c.prepared.inside.kept c.prepared.inside.rows
    c.shift_of-shift.result.from c.shift_of-shift.result.to c.replace.new.self
    (ap (λ (d : DocState). d.report.rows) c.old.view_is) c.count_taken_over-behind.ensures
    (ap (λ (x : PreparedState). x.kept) c.prepared.view_is) (ap (λ (x : PreparedState). x.rows) c.prepared.view_is)
    c.shift_of-shift.ensures.from c.shift_of-shift.ensures.to c.in-Ok.ensures.ok in
    made c.args.old edit.start edit.end edit.text.now c.args.prepared doc c.requires _
    (ap (λ (x : PreparedState). x.text) c.prepared.view_is) (ap (λ (d : DocState). d.source_type) c.old.view_is)
    (ap (λ (x : PreparedState). x.commands) c.prepared.view_is) gathered
    (ap (λ (x : PreparedState). x.kept) c.prepared.view_is) c.joined_index-joined.ensures
