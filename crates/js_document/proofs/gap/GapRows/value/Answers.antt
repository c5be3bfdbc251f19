use Rattle.std.proofs.Common.{◌∙◌, Some, ap, arith, sym}
use Rattle.std.proofs.lemmas.List.{length-map}
use Rattle.std.proofs.lemmas.Option.{slice_get_past}
use Rattle.std.specs.Option.{option_map}
use Rattle.std.specs.Prelude.{slice_get}
use Rattle.js_document.specs.Gap.{rows_of}
use Rattle.js_document.proofs.GapLemmas.{row_of_entry, whole}
use Rattle.js_document.proofs.gap.GapRows.value.Goals as goal

pub returns-then-index-len : goal.returns-then-index-len
returns-then-index-len g c =
    let rows = c.self.inside.rows in
    let past = c.if-index-len.true in
    let all = c.len.ensures in
    let long = length-map rows (λ e. e.row) in
    sym
    (ap (λ es. option_map (λ row. row.value) (slice_get (rows_of es) c.args.index))
    (whole c.self.inside.rows c.self.inside.gap c.self.inside.pad c.args.self.now c.self.view_is)
    ∙ ap (option_map (λ row. row.value)) (slice_get_past (rows_of rows) c.args.index (omega (arith, past, all, long))))

pub returns : goal.returns
returns g c =
    let rows = c.self.inside.rows in
    ap Some c.value.ensures
    ∙ sym
    (ap (λ es. option_map (λ row. row.value) (slice_get (rows_of es) c.args.index))
    (whole c.self.inside.rows c.self.inside.gap c.self.inside.pad c.args.self.now c.self.view_is)
    ∙ ap (option_map (λ row. row.value)) (row_of_entry rows c.args.index c.at-entry.result c.at-entry.ensures))
