use Rattle.std.proofs.Common.{◌∙◌, ap, arith, false, sym}
use Rattle.std.proofs.lemmas.List.{length-map}
use Rattle.std.proofs.lemmas.Option.{slice_get_past}
use Rattle.std.specs.Option.{option_map_or}
use Rattle.std.specs.Prelude.{slice_get}
use Rattle.js_document.specs.Gap.{reads_again, rows_of}
use Rattle.js_document.proofs.GapLemmas.{row_of_entry, whole}
use Rattle.js_document.proofs.gap.GapRows.is_read_again.Goals as goal

pub returns-then-index-len : goal.returns-then-index-len
returns-then-index-len g c =
    let rows = c.self.inside.rows in
    let past = c.if-index-len.true in
    let all = c.len.ensures in
    let long = length-map rows (λ e. e.row) in
    sym
    (ap (λ es. option_map_or reads_again (slice_get (rows_of es) c.args.index) false)
    (whole c.self.inside.rows c.self.inside.gap c.self.inside.pad c.args.self.now c.self.view_is)
    ∙ ap (λ o. option_map_or reads_again o false) (slice_get_past (rows_of rows) c.args.index (omega (arith, past, all, long))))

pub returns : goal.returns
returns g c =
    let rows = c.self.inside.rows in
    c.reads_again.ensures
    ∙ sym
    (ap (λ es. option_map_or reads_again (slice_get (rows_of es) c.args.index) false)
    (whole c.self.inside.rows c.self.inside.gap c.self.inside.pad c.args.self.now c.self.view_is)
    ∙ ap (λ o. option_map_or reads_again o false) (row_of_entry rows c.args.index c.at-entry.result c.at-entry.ensures))
