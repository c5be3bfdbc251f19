use Rattle.std.proofs.Common.{◌∙◌, [], ap, arith, sym}
use Rattle.std.proofs.lemmas.List.{length-map}
use Rattle.std.proofs.lemmas.Option.{slice_get_past}
use Rattle.std.specs.Option.{option_map_or}
use Rattle.std.specs.Prelude.{slice_get}
use Rattle.js_document.specs.Gap.{rows_of}
use Rattle.js_document.proofs.GapLemmas.{row_of_entry, whole}
use Rattle.js_document.proofs.gap.GapRows.found.Goals as goal

pub returns-then-row-len-clause-item : goal.returns-then-row-len-clause-item
returns-then-row-len-clause-item g c =
    let rows = c.self.inside.rows in
    let past = c.if-row-len.true in
    let all = c.len.ensures in
    let long = length-map rows (λ e. e.row) in
    sym
    (ap (λ es. slice_get (option_map_or g.L.FoundList.items (slice_get (rows_of es) c.args.row) []) c.args.index)
    (whole c.self.inside.rows c.self.inside.gap c.self.inside.pad c.args.self.now c.self.view_is)
    ∙ ap (λ o. slice_get (option_map_or g.L.FoundList.items o []) c.args.index)
    (slice_get_past (rows_of rows) c.args.row (omega (arith, past, all, long))))

pub returns-clause-item : goal.returns-clause-item
returns-clause-item g c =
    let rows = c.self.inside.rows in
    c.item.ensures.item
    ∙ sym
    (ap (λ es. slice_get (option_map_or g.L.FoundList.items (slice_get (rows_of es) c.args.row) []) c.args.index)
    (whole c.self.inside.rows c.self.inside.gap c.self.inside.pad c.args.self.now c.self.view_is)
    ∙ ap (λ o. slice_get (option_map_or g.L.FoundList.items o []) c.args.index)
    (row_of_entry rows c.args.row c.at-entry.result c.at-entry.ensures))
