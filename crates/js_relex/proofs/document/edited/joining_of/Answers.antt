use Rattle.std.proofs.Common.{◌+◌, ◌∙◌, ap, sym, length}
use Rattle.js_session.specs.declared.report.Report.{Report}
use Rattle.js_relex.proofs.JoinedRows.{count_rows}
use Rattle.js_relex.proofs.document.edited.joining_of.Goals as goal

pub new-requires : goal.new-requires
new-requires c =
    let d = c.old.inside in
    ap length (c.as_slice.ensures ∙ ap (λ (r : Report). r.rows) c.report.ensures)
    ∙ count_rows d.text d.source_type d.commands d.report.rows c.old.invariant.lasting c.old.invariant.report_is.rows
    ∙ ap (λ cs. length cs + 1) (sym c.as_slice-2.ensures)
